-- Positions of primary signals and epochs of entries, each modulo its period.
use Rattle.std.proofs.Common.{◌≡◌, ℕ, ◌+◌, ◌-◌, ◌*◌, ◌/◌, ◌%◌, ◌<◌, ◌≤◌, ◌⊎◌, inl, inr, arith, subst, true, nat_eq, nat_le}
use Rattle.std.specs.Prelude.{◌&&◌}
use Rattle.std.proofs.lemmas.Bool.{cases_lt}
use Rattle.std.proofs.lemmas.Bool.Decides.{nat_tests}
use Rattle.lte_types.specs.declared.frame.Half.{Half}
use Rattle.lte_types.specs.declared.frame.Half.TheVariants.{Zero, Five}
use Rattle.lte_types.specs.Timing.{start_of}
use Rattle.sss_detect.specs.Place.{start_by_hit}
use Rattle.explain.specs.Entries.{distance}
use Rattle.clean_air.proofs.SentSymbols.{IsTruePlace}

-- ---- the true position in the range

-- a position in the later half frame of the PSS search range at which a primary signal of the cell begins, and the
-- frame start that it implies
pub record IsTrueHit (offset t : ℕ) (half : Half) : Type 0 where
  pub low : 9737 ≤ t
  pub high : t ≤ 19336
  pub is : IsTruePlace offset t half

pub record HasTrueHit (offset : ℕ) : Type 0 where
  pub t : ℕ
  pub half : Half
  pub is_hit : IsTrueHit offset t half

pub true_hit : (offset : ℕ) → offset < 19200 → HasTrueHit offset
true_hit offset within = elim (cases_lt (start_of offset) 8905) [
  | inl low ↦ record {
    t = start_of offset + 10432;
    half = Five;
    is_hit = record {
      low = omega arith;
      high = omega (arith, low);
      is = record { frame = (start_of offset + offset) / 19200; place = omega (arith, within) };
    };
  }
  | inr late ↦ elim (cases_lt (start_of offset) 18505) [
    | inl low ↦ record {
      t = start_of offset + 832;
      half = Zero;
      is_hit = record {
        low = omega (arith, late);
        high = omega (arith, low);
        is = record { frame = (start_of offset + offset) / 19200; place = omega (arith, within) };
      };
    }
    | inr high ↦ record {
      t = start_of offset - 8768;
      half = Five;
      is_hit = record {
        low = omega (arith, high);
        high = omega arith;
        is = record { frame = 0; place = omega (arith, within, high) };
      };
    }
  ]
]

-- a true position implies the start of the cell's frames
pub true_start : (offset t : ℕ) (half : Half) → offset < 19200 → IsTruePlace offset t half → start_by_hit t half ≡ start_of offset
true_start offset t Zero within p = omega (arith, within, p.place)
true_start offset t Five within p = omega (arith, within, p.place)

-- ---- nearby positions

-- two starts are at most 9 samples apart, modulo the frame length
abbrev pub AreNear : ℕ → ℕ → Type 0
AreNear a b = ((a - b) + (b - a) ≤ 9) ⊎ (19191 ≤ (a - b) + (b - a))

pub record IsNearTrue (offset t : ℕ) (half : Half) : Type 0 where
  pub u : ℕ
  pub is : IsTruePlace offset u half
  pub above : u ≤ t + 9
  pub below : t ≤ u + 9

record IsNearPlace (offset t p : ℕ) : Type 0 where
  u : ℕ
  place : u + offset ≡ 19200 * ((u + offset) / 19200) + p
  above : u ≤ t + 9
  below : t ≤ u + 9

near_place : (offset t p : ℕ) → offset < 19200 → p < 19200 → 137 ≤ t → AreNear ((t + (19200 - p)) % 19200) (start_of offset) → IsNearPlace offset t p
near_place offset t p within inside first near = elim (cases_lt ((t + (19200 - p)) % 19200) (start_of offset)) [
  | inl before ↦ elim near [
    | inl close ↦ record { u = t + (start_of offset - (t + (19200 - p)) % 19200); place = omega arith; above = omega arith; below = omega arith }
    | inr far ↦ record { u = t - (19200 + (t + (19200 - p)) % 19200 - start_of offset); place = omega arith; above = omega arith; below = omega arith }
  ]
  | inr after ↦ elim near [
    | inl close ↦ record { u = t - ((t + (19200 - p)) % 19200 - start_of offset); place = omega arith; above = omega arith; below = omega arith }
    | inr far ↦ record { u = t + (19200 + start_of offset - (t + (19200 - p)) % 19200); place = omega arith; above = omega arith; below = omega arith }
  ]
]

-- a position that implies a nearby start is near a true position
pub near_true : (offset t : ℕ) (half : Half) → offset < 19200 → 137 ≤ t → AreNear (start_by_hit t half) (start_of offset) → IsNearTrue offset t half
near_true offset t Zero within first near =
    let p = near_place offset t 832 within (omega arith) first near in
    record { u = p.u; is = record { frame = (p.u + offset) / 19200; place = p.place }; above = p.above; below = p.below }
near_true offset t Five within first near =
    let p = near_place offset t 10432 within (omega arith) first near in
    record { u = p.u; is = record { frame = (p.u + offset) / 19200; place = p.place }; above = p.above; below = p.below }

-- ---- epochs

-- an epoch by start and frame number
epoch_is : (a m : ℕ) → a < 19200 → m < 1024 → (a + (19660800 - 19200 * m)) % 19660800 ≡ a + 19200 * ((1024 - m) % 1024)
epoch_is a m x y = omega arith

near_circle : (x y : ℕ) → distance x y ≤ 9 → ((x - y) + (y - x) ≤ 9) ⊎ (19660791 ≤ (x - y) + (y - x))
near_circle x y h = elim (cases_lt ((x - y) + (y - x)) 10) [
  | inl low ↦ inl (omega (arith, low))
  | inr high ↦ inr (omega (arith, high, h))
]

near_by : (a b i k : ℕ) → a < 19200 → b < 19200 → i < 1024 → k < 1024 →
    (a + 19200 * i - (b + 19200 * k)) + (b + 19200 * k - (a + 19200 * i)) ≤ 9 → AreNear a b
near_by a b i k p q r s h = elim (cases_lt ((a - b) + (b - a)) 10) [
  | inl low ↦ inl (omega (arith, low))
  | inr high ↦ inr (omega arith)
]

near_round : (a b i k : ℕ) → a < 19200 → b < 19200 → i < 1024 → k < 1024 →
    19660791 ≤ (a + 19200 * i - (b + 19200 * k)) + (b + 19200 * k - (a + 19200 * i)) → AreNear a b
near_round a b i k p q r s h = inr (omega arith)

same_by : (a i k : ℕ) → a < 19200 → i < 1024 → k < 1024 →
    ((a + 19200 * i - (a + 19200 * k)) + (a + 19200 * k - (a + 19200 * i)) ≤ 9) ⊎ (19660791 ≤ (a + 19200 * i - (a + 19200 * k)) + (a + 19200 * k - (a + 19200 * i))) → i ≡ k
same_by a i k p r s (inl h) = omega (arith, h)
same_by a i k p r s (inr h) = omega (arith, h, p, r, s)

module _ (a b m n : ℕ) (start : a < 19200) (other : b < 19200) (number : m < 1024) (other_number : n < 1024)
    (near : distance ((a + (19660800 - 19200 * m)) % 19660800) ((b + (19660800 - 19200 * n)) % 19660800) ≤ 9) where
  on_circle : ((a + 19200 * ((1024 - m) % 1024) - (b + 19200 * ((1024 - n) % 1024))) + (b + 19200 * ((1024 - n) % 1024) - (a + 19200 * ((1024 - m) % 1024))) ≤ 9)
      ⊎ (19660791 ≤ (a + 19200 * ((1024 - m) % 1024) - (b + 19200 * ((1024 - n) % 1024))) + (b + 19200 * ((1024 - n) % 1024) - (a + 19200 * ((1024 - m) % 1024))))
  on_circle = near_circle (a + 19200 * ((1024 - m) % 1024)) (b + 19200 * ((1024 - n) % 1024))
      (subst (λ x. distance x (b + 19200 * ((1024 - n) % 1024)) ≤ 9) (epoch_is a m start number)
      (subst (λ y. distance ((a + (19660800 - 19200 * m)) % 19660800) y ≤ 9) (epoch_is b n other other_number) near))

  -- nearby epochs have nearby starts
  pub near_starts : AreNear a b
  near_starts = elim on_circle [
    | inl h ↦ near_by a b ((1024 - m) % 1024) ((1024 - n) % 1024) start other (omega arith) (omega arith) h
    | inr h ↦ near_round a b ((1024 - m) % 1024) ((1024 - n) % 1024) start other (omega arith) (omega arith) h
  ]

  -- nearby epochs with the same start have the same frame number
  pub same_numbers : a ≡ b → m ≡ n
  same_numbers e =
      let k : (1024 - m) % 1024 ≡ (1024 - n) % 1024 = same_by b ((1024 - m) % 1024) ((1024 - n) % 1024) other (omega arith) (omega arith)
      (subst (λ x. ((x + 19200 * ((1024 - m) % 1024) - (b + 19200 * ((1024 - n) % 1024))) + (b + 19200 * ((1024 - n) % 1024) - (x + 19200 * ((1024 - m) % 1024))) ≤ 9)
      ⊎ (19660791 ≤ (x + 19200 * ((1024 - m) % 1024) - (b + 19200 * ((1024 - n) % 1024))) + (b + 19200 * ((1024 - n) % 1024) - (x + 19200 * ((1024 - m) % 1024))))) e on_circle) in
      omega (arith, k, number, other_number)

-- ---- entries

-- a detection's first frame begins within one frame
pub start_small : (t : ℕ) (half : Half) → start_by_hit t half < 19200
start_small t Zero = omega arith
start_small t Five = omega arith

-- consequences of two entries belonging to one cell
pub record IsOneCell (m n gap : ℕ) : Type 0 where
  pub id : m ≡ n
  pub near : gap ≤ 9

pub cell_is : (m n gap : ℕ) → (nat_eq m n && nat_le gap 9) ≡ true → IsOneCell m n gap
cell_is m n gap e = record { id = grind (arith, nat_tests); near = grind (arith, nat_tests) }
