use Rattle.std.proofs.Common.{◌≡◌, ◌∙◌, ap, ap₂, ℕ}
use Rattle.cs_num.specs.declared.Cpx.{Cpx}
use Rattle.soft_bits.specs.Pairs.{first_point, second_point}
use Rattle.wide_cell.specs.Cell.{Cell}
use Rattle.wide_slot.specs.Slot.{port_channel}
use Rattle.wide_slot.specs.Values.{wide_pair, lower_port, upper_port, received, pair_values}
use Rattle.wide_slot.proofs.Magnitudes.{four_are}
use Rattle.wide_slot.proofs.places.pair_values.Goals as goal

pub returns : goal.returns
unfolding pair_values
returns c =
    let seen = c.args.slot.now in
    let i : ℕ = c.args.i in
    let p = c.args.p.now in
    let q = c.args.q.now in
    let ports : c.ports-ports.result ≡ seen.cell.ports = c.ports-ports.ensures.value ∙ ap (λ (cell : Cell). cell.ports) c.cell.ensures in
    let h : c.channel-h.result ≡ port_channel seen (lower_port seen.cell.ports i) p.k =
    c.channel-h.ensures.value ∙ ap (λ (n : ℕ). port_channel seen n p.k) (c.lower_port.ensures.value ∙ ap (λ (n : ℕ). lower_port n i) ports) in
    let g : c.channel-g.result ≡ port_channel seen (upper_port seen.cell.ports i) p.k =
    c.channel-g.ensures.value ∙ ap (λ (n : ℕ). port_channel seen n p.k) (c.upper_port.ensures.value ∙ ap (λ (n : ℕ). upper_port n i) ports) in
    let one : c.first_of_pair.result ≡ first_point (port_channel seen (lower_port seen.cell.ports i) p.k) (port_channel seen (upper_port seen.cell.ports i) p.k) (received seen p) (received seen q) =
    c.first_of_pair.ensures.value ∙ ap₂ (λ (a b : Cpx). first_point c.channel-h.result c.channel-g.result a b) c.seen-a.ensures.value c.seen-b.ensures.value
    ∙ ap₂ (λ (x y : Cpx). first_point x y (received seen p) (received seen q)) h g in
    let two : c.second_of_pair.result ≡ second_point (port_channel seen (lower_port seen.cell.ports i) p.k) (port_channel seen (upper_port seen.cell.ports i) p.k) (received seen p) (received seen q) =
    c.second_of_pair.ensures.value ∙ ap₂ (λ (a b : Cpx). second_point c.channel-h.result c.channel-g.result a b) c.seen-a.ensures.value c.seen-b.ensures.value
    ∙ ap₂ (λ (x y : Cpx). second_point x y (received seen p) (received seen q)) h g in
    four_are seen _ _ c.soft_pair-first.result c.soft_pair-second.result
    (c.soft_pair-first.ensures.values ∙ ap (wide_pair seen) one)
    (c.soft_pair-second.ensures.values ∙ ap (wide_pair seen) two)
