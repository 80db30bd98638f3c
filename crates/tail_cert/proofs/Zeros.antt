-- The certificate of zeros has the lengths of a certificate.
use Rattle.std.proofs.Common.{◌≡◌, ℕ, ◌-◌, false, cond, List, [], Option, Some, None, get_or, replicate, pos, sym, ap, ◌∙◌, arith}
use Rattle.std.proofs.lemmas.List.{get_or-replicate, length-replicate}
use Rattle.finite.proofs.Lists.{values_below_is}
use Rattle.tail_cert.specs.Certificate.{Counted, Held, IsTable, of_zeros}
use Rattle.tail_cert.specs.Stored.{IsStored, shown, shown_at}

-- a list of n copies of one element
pub counted_same : {A : Type 0} (P : A → Type 0) (n : ℕ) (x : A) → P x → Counted n P (replicate n x)
counted_same P n x h = record {
  count = length-replicate n x;
  all = λ i d inside.
      let size = length-replicate n x in
      rw (get_or-replicate n i x d (omega (arith, inside, size))) h;
}

pub zeros_stored : IsStored (replicate 40 (replicate 3 (pos 0))) (replicate 40 false) 0 (replicate 40 (replicate 64 0)) (replicate 64 false) []
zeros_stored = record {
  places = counted_same _ 40 _ (counted_same _ 3 _ (omega arith));
  bits = length-replicate 40 false;
  fits = omega arith;
  general_is = counted_same _ 40 _ (counted_same _ 64 _ (omega arith));
  states = length-replicate 64 false;
  tables_are = record {
    each = λ s d inside. absurd (omega (arith, inside));
    most = omega arith;
    room = λ s below there. absurd (cc (sym (get_or-replicate 64 (63 - s) false false (omega arith)) ∙ there));
  };
}

-- a table of zeros
pub zero_table : IsTable (replicate 40 (replicate 64 0))
zero_table = counted_same _ 40 _ (counted_same _ 64 _ (omega arith))

-- the empty set selects no table
pub none_shown : (tables : List (List (List ℕ))) → shown (replicate 64 false) tables ≡ replicate 64 None
unfolding shown
none_shown tables = sym (values_below_is None 64 (shown_at (replicate 64 false) tables) (replicate 64 None) (length-replicate {A = Option (List (List ℕ))} 64 None) (λ s below.
    get_or-replicate {A = Option (List (List ℕ))} 64 s None None below ∙ sym (ap (λ b. cond b (Some (get_or tables s [])) None) (get_or-replicate 64 (63 - s) false false (omega arith)))))

-- memory of zeros is the certificate of zeros
pub zeros_are : (tables : List (List (List ℕ))) → record {
  values = replicate 40 (replicate 3 (pos 0));
  word = replicate 40 false;
  cost = 0;
  general = replicate 40 (replicate 64 0);
  tables = shown (replicate 64 false) tables;
} ≡ of_zeros
zeros_are tables = ap zeros_with (none_shown tables)
  where
    zeros_with : List (Option (List (List ℕ))) → Held
    zeros_with maybes = record {
      values = replicate 40 (replicate 3 (pos 0));
      word = replicate 40 false;
      cost = 0;
      general = replicate 40 (replicate 64 0);
      tables = maybes;
    }
