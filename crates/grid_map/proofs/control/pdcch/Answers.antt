use Rattle.std.proofs.Common.{◌≡◌, ◌∙◌, true, ap, sym, length, arith}
use Rattle.std.proofs.lemmas.List.Elements.{All-same}
use Rattle.grid_map.specs.declared.Reg.{Reg}
use Rattle.grid_map.specs.Control.{is_in_region}
use Rattle.grid_map.proofs.Regions.{kept_none, kept_yes, kept_no, kept_all, room_for_one, pdcch_count, pdcch_inside}
use Rattle.grid_map.proofs.control.pdcch.Goals as goal
use Rattle.grid_map.proofs.control.pdcch.Goals.{then-is_left, else-is_left}

pub loop-n-init : goal.loop-n-init
loop-n-init c = c.new-groups.ensures ∙ sym (kept_none c.pcfich-pcfich.result c.phich-phich.result.items c.value-last.result)

pub push-requires : goal.push-requires
push-requires c =
    let stays = sym c.is_left.ensures ∙ c.if-is_left.true in
    let room = room_for_one c.pcfich-pcfich.result c.phich-phich.result.items c.loop-n.groups.items c.value-last.result c.loop-n.n (omega arith) c.loop-n-test.true (rw (c.as_slice.ensures.value, c.numbered_reg-reg.ensures) at stays) c.loop-n.invariant in
    (omega arith, room)

pub loop-n-preserved : goal.loop-n-preserved
loop-n-preserved c =
    elim c.if-is_left.branch [
      | then-is_left w ↦
          let stays = sym c.is_left.ensures ∙ w.if-is_left.true in
          let more = kept_yes c.pcfich-pcfich.result c.phich-phich.result.items c.value-last.result c.loop-n.n (rw (c.as_slice.ensures.value, c.numbered_reg-reg.ensures) at stays) in
          let reg_is = c.numbered_reg-reg.ensures in
          let pushed = w.push.ensures.items in
          let is = w.groups-is in
          let before = c.loop-n.invariant in
          cc
      | else-is_left w ↦
          let stays = sym c.is_left.ensures ∙ w.if-is_left.false in
          let same = kept_no c.pcfich-pcfich.result c.phich-phich.result.items c.value-last.result c.loop-n.n (rw (c.as_slice.ensures.value, c.numbered_reg-reg.ensures) at stays) in
          let is = w.groups-is in
          let before = c.loop-n.invariant in
          cc
    ]

pub returns-clause-groups : goal.returns-clause-groups
returns-clause-groups c =
    let last : c.loop-n.n ≡ 288 = omega arith in
    c.loop-n.invariant ∙ rw (last, c.pcfich-pcfich.ensures.groups, c.phich-phich.ensures, c.value-last.ensures.value) (kept_all c.args.id c.args.cfi c.args.mib.duration c.args.mib.resource)

pub returns-clause-count : goal.returns-clause-count
returns-clause-count c =
    ap length (returns-clause-groups c)
    ∙ pdcch_count c.args.id c.args.cfi c.args.mib.duration c.args.mib.resource c.value-last.ensures.valid.0 c.value-last.ensures.valid.1

pub returns-clause-inside : goal.returns-clause-inside
returns-clause-inside c =
    All-same (λ (g : Reg). is_in_region c.args.cfi g ≡ true) _ _ (returns-clause-groups c)
    (pdcch_inside c.args.id c.args.cfi c.args.mib.duration c.args.mib.resource)
