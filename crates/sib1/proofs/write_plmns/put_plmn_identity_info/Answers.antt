use Rattle.std.proofs.Common.{ℕ, ◌≤◌, subst}
use mir.Val.{bool_byte}
use Rattle.uper.specs.Grammar.{from_to}
use Rattle.uper.specs.Sheet.{Puts}
use Rattle.sib1.proofs.Written.{plmn_puts}
use Rattle.sib1.proofs.write_plmns.put_plmn_identity_info.Goals as goal

pub returns : goal.returns
returns c = λ least small.
    plmn_puts c.args.network.now least c.args.sheet.now c.put.new.self c.put_mcc.new.sheet c.put_mnc.new.sheet c.flag.new.self small
    (subst (λ b. (least greatest : ℕ) → least ≤ bool_byte b → bool_byte b ≤ greatest → Puts (from_to 1 least greatest) (bool_byte b) c.args.sheet.now c.put.new.self) c.is_some.ensures c.put.ensures.puts)
    c.put_mcc.ensures c.put_mnc.ensures c.flag.ensures
