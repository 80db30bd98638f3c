use Rattle.std.proofs.Common.{◌≡◌, ℕ, ◌+◌, ◌<◌, Bool, true, false, nat_eq, slice_index_or, arith, refl, sym, subst, ap, ◌∙◌}
use Rattle.std.specs.Prelude.{if◌then◌else◌}
use Rattle.std.proofs.lemmas.Bool.{false≢true}
use Rattle.std.proofs.lemmas.Bool.Decides.{nat_tests}
use Rattle.cs_num.specs.Complex.{sample_of, silence}
use Rattle.lte_types.specs.declared.carrier.Carrier.{Carrier}
use Rattle.lte_types.specs.Carrier.{prefix_of}
use Rattle.lte_types.specs.Timing.{number_of}
use Rattle.cell_tx.specs.declared.source.Source.{Source}
use Rattle.cell_tx.specs.declared.frame_symbols.Symbols.{Symbols}
use Rattle.cell_tx.specs.Mixing.{carrier_by}
use Rattle.cell_tx.specs.Emitting.{framed, AreOwn, is_made_anew}
use Rattle.cell_tx.proofs.Mixing.{framed_same}
use Rattle.cell_tx.proofs.emitter.FrameMaker.make_frame_of.Goals as goal

-- a recomputed sample belongs to the frame, and the others already did
pub returns : goal.returns
returns c n held i inside = c.make.ensures i inside ∙ by (is_made_anew (prefix_of (carrier_by s.ports)) symbols i) refl
  where
    s : Source
    s = c.args.self.now.source

    symbols : Symbols
    symbols = c.symbols_at-symbols.result

    own : AreOwn (carrier_by s.ports) s.load symbols
    own = subst (λ (carrier : Carrier). AreOwn carrier s.load symbols) c.args.self.now.port_is c.symbols_at-symbols.ensures.own

    number : ℕ
    number = number_of s.timing.sfn (c.args.at + s.timing.offset)

    begun : is_made_anew (prefix_of (carrier_by s.ports)) symbols i ≡ false → (first : Bool) → nat_eq c.args.at 0 ≡ first → 0 < c.args.at
    begun kept true e = absurd (false≢true (sym kept ∙ subst (λ (carrier : Carrier). is_made_anew (prefix_of carrier) symbols i ≡ true) c.args.self.now.port_is (c.symbols_at-symbols.ensures.all e i inside)))
    begun kept false e = grind (arith, nat_tests)

    by : (t : Bool) → is_made_anew (prefix_of (carrier_by s.ports)) symbols i ≡ t →
        (if t then sample_of (framed s c.number_at-sfn.result i) else slice_index_or c.args.frame.now i silence) ≡ sample_of (framed s number i)
    by true e = ap (λ m. sample_of (framed s m i)) c.number_at-sfn.ensures
    by false e = held (begun e (nat_eq c.args.at 0) refl) i inside ∙ ap sample_of (framed_same s symbols n number i own inside e)
