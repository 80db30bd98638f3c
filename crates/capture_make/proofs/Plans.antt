-- Every plan can be sent.
use Rattle.std.proofs.Common.{◌≡◌, inl, ℕ, ◌+◌, ◌*◌, ◌%◌, ◌≤◌, false, true, if◌then◌else◌, List, length, None, refl, sym, subst, arith}
use Rattle.std.specs.Prelude.{Bool, IsSomeAnd}
use Rattle.std.proofs.lemmas.Bool.{le-leb}
use Rattle.lte_types.specs.declared.carrier.Carrier.{Carrier}
use Rattle.lte_types.specs.declared.carrier.Carrier.TheVariants.{OnePort}
use Rattle.grid_map.specs.Shared.{block_places_of}
use Rattle.grid_map.proofs.BlockPlaces.{are_few}
use Rattle.dci.specs.Sizes.{column_2}
use Rattle.sib1.specs.Text.{text_of}
use Rattle.sib1.proofs.Texts.{text_of_is}
use Rattle.sib1.proofs.Valid.{sib1_holds}
use Rattle.cell_plan.specs.Transport.{coded_count, assigned_bits_of, is_whole_of, is_resolvable}
use Rattle.cell_plan.specs.Plan.{needs_each_bit, IsSendable, IsSendableBy, refusal_of}
use Rattle.cell_plan.proofs.Sendable.{accepted_is_sendable_by, with_enough}
use Rattle.cell_plan.proofs.WholeBlocks.{whole_is_resolvable}
use Rattle.capture_make.specs.Recipe.{plan, information}
use Rattle.capture_make.proofs.Information.{has_text}

-- 172 times three coded bits fit six resource blocks, for each transmission scheme
whole : (carrier : Carrier) (cfi : ℕ) → 3 * (144 + 24 + 4) ≤ 2 * (block_places_of carrier cfi * 6)
whole carrier cfi = fit _ (are_few carrier cfi).least
  where
    fit : (places : ℕ) → 68 ≤ places → 3 * (144 + 24 + 4) ≤ 2 * (places * 6)
    fit places l = omega (arith, l)

fits : (n : ℕ) → IsSomeAnd (text_of (information n)) (λ text. length text ≤ 144)
fits n =
    let h = has_text n in
    let size = h.size in
    subst (λ o. IsSomeAnd o (λ (text : List Bool). length text ≤ 144)) (sym (text_of_is h.text (information n) h.is_text)) (omega (arith, size))

pub is_sendable : (n : ℕ) → IsSendable (plan n)
unfolding column_2
is_sendable n =
    let h = has_text n in
    record {
      valid = sib1_holds h.text (information n) h.is_text;
      identity = omega arith;
      spare = omega arith;
      cfi = (omega arith, omega arith);
      assignment = record { some = omega arith; inside = omega arith };
      column = inl refl;
      mcs = refl;
      enough = whole_is_resolvable (plan n) refl (whole OnePort (2 + n % 2));
      duplex = refl;
      extension = refl;
      text = fits n;
    }

pub is_sendable_by : (carrier : Carrier) (n : ℕ) → IsSendableBy carrier (plan n)
unfolding column_2
is_sendable_by carrier n = with_enough (is_resolvable (plan n) ≡ true) _ (plan n) (is_sendable n) (by (needs_each_bit carrier))
  where
    by : (each : Bool) → (if each then is_whole_of carrier (plan n) else is_resolvable (plan n)) ≡ true
    by true = le-leb (coded_count (plan n)) (assigned_bits_of carrier (plan n)) (whole carrier (2 + n % 2))
    by false = (is_sendable n).enough

-- no condition on the plan fails
pub none_fails : (carrier : Carrier) (n : ℕ) → refusal_of carrier (plan n) ≡ None
none_fails carrier n = ((accepted_is_sendable_by carrier (plan n)).1 (is_sendable_by carrier n)).1
