use Rattle.std.proofs.Common.{ℕ, ap, sym, subst, ◌∙◌, None}
use Rattle.lte_types.specs.Numerology.{symbols_of_slot}
use Rattle.cell_tx.specs.Emitting.{AreOwn}
use Rattle.cell_tx.proofs.OwnSymbols.{channels_of, broadcast_of, own_of, own_without}
use Rattle.cell_tx.proofs.frame_symbols.channel_symbols.Goals as goal

pub returns-then-has_control-clause-own : goal.returns-then-has_control-clause-own
returns-then-has_control-clause-own c =
    subst (λ (n : ℕ). AreOwn c.args.carrier None (channels_of n)) (sym (c.symbols-first.ensures ∙ ap symbols_of_slot c.prefix.ensures)) (own_of c.args.carrier)

pub returns-else-has_control-clause-own : goal.returns-else-has_control-clause-own
returns-else-has_control-clause-own c =
    subst (λ (n : ℕ). AreOwn c.args.carrier None (broadcast_of n)) (sym (c.symbols-first.ensures ∙ ap symbols_of_slot c.prefix.ensures)) (own_without c.args.carrier (sym c.has_control.ensures ∙ c.if-has_control.false))
