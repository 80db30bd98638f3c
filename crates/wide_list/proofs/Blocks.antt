-- The transport block that carried SIB1: where it is found, that there is exactly one, and that the fields are in it.
use Rattle.std.proofs.Common.{◌≡◌, ◌⊎◌, inl, inr, ℕ, ◌+◌, ◌<◌, Bool, List, [], length, get_or, Result, Ok, Err, arith, refl, sym, subst, ◌∙◌}
use Rattle.lte_types.specs.declared.sib1.Sib1.{Sib1}
use Rattle.lte_types.specs.declared.sib1_reason.Sib1Reason.{Sib1Reason}
use Rattle.sib1.specs.Message.{Says}
use Rattle.halving.specs.Wide.{Wide, narrowed}
use Rattle.wide_cell.specs.Cell.{Cell}
use Rattle.wide_block.specs.Sums.{Offer, added}
use Rattle.wide_block.specs.Block.{block_in, offer_block}
use Rattle.wide_block.proofs.Carried.{one_carried, sums_say, offer_says, sums_block, block_of_offer}
use Rattle.explain.specs.System.{even_frame, IsTried, IsFirstRead}
use Rattle.wide_list.specs.First.{HasNone, HaveNone, IsFirstOf}
use Rattle.wide_list.specs.Frames.{Frame, IsFrame, IsAlone, HasFields, HasBits, HasBitsAlone}
use Rattle.wide_list.specs.Together.{like_offers, HasFieldsWith, HasFieldsTogether, HasBitsWith, HasBitsTogether}
use Rattle.wide_list.specs.System.{AreTried, AreUnread, IsWideSystem}
use Rattle.wide_list.specs.Bits.{AreReadTogether, AreNotRead, AreBitsOf, AreSystemBits, IsReadIn}
use Rattle.wide_list.specs.Laws.{IsOneSystemBlock, IsSomeSystemBlock, SystemIsInBits}
use Rattle.wide_list.proofs.First.{first_of-none, one_first_of, first_or_none, all_none_also, first_also, decided_also}
use Rattle.wide_list.proofs.Same.{no_frame, one_frame, one_tried, same_fields, not_both, one_wide_system}
use Rattle.wide_list.proofs.Exists.{fields_or_not, together_or_not, some_tried, some_alone}
use Rattle.wide_list.proofs.Reading.{NoneBelow}

-- `fields` are encoded in `bits`
abbrev pub AreIn : Sib1 → List Bool → Type 0
AreIn fields bits = Says bits (Ok fields)

abbrev pub Encode : List Bool → Sib1 → Type 0
Encode bits fields = Says bits (Ok fields)

-- ---- offers

pub fields_of_bits : (offer : Offer) (bits : List Bool) → HasBits offer bits → (fields : Sib1) × HasFields offer fields × AreIn fields bits
fields_of_bits offer bits has = let found = offer_says offer bits has in (found.fields, found.answers, found.says)

bits_of_fields : (offer : Offer) (fields : Sib1) → HasFields offer fields → (bits : List Bool) × HasBits offer bits × Encode bits fields
bits_of_fields offer fields has = block_of_offer offer fields has

one_bits : (offer : Offer) (a b : List Bool) → HasBits offer a → HasBits offer b → a ≡ b
one_bits offer a b x y = one_carried (offer_block offer) a b x y

module _ (frames : List Frame) (period : ℕ) where
  pub fields_of_bits_with : (offer : Offer) (bits : List Bool) → HasBitsWith frames period offer bits →
      (fields : Sib1) × HasFieldsWith frames period offer fields × AreIn fields bits
  fields_of_bits_with offer bits has =
      let found = sums_say (added (like_offers frames period offer.grant)) offer.grant.size bits has in (found.fields, found.answers, found.says)

  bits_of_fields_with : (offer : Offer) (fields : Sib1) → HasFieldsWith frames period offer fields →
      (bits : List Bool) × HasBitsWith frames period offer bits × Encode bits fields
  bits_of_fields_with offer fields has = sums_block (added (like_offers frames period offer.grant)) offer.grant.size fields has

  one_bits_with : (offer : Offer) (a b : List Bool) → HasBitsWith frames period offer a → HasBitsWith frames period offer b → a ≡ b
  one_bits_with offer a b x y = one_carried (block_in (added (like_offers frames period offer.grant)) offer.grant.size) a b x y

-- ---- frames

-- `fields` are those of a frame's first offer that has any
abbrev HasFieldsAlone : Frame → Sib1 → Type 0
HasFieldsAlone frame fields = IsFirstOf HasFields frame.offers fields

fields_alone : (frame : Frame) (bits : List Bool) → HasBitsAlone frame bits → (fields : Sib1) × HasFieldsAlone frame fields × AreIn fields bits
fields_alone frame bits has = first_also HasBits HasFields Encode bits_of_fields fields_of_bits frame.offers bits has

bits_alone : (frame : Frame) (fields : Sib1) → HasFieldsAlone frame fields → (bits : List Bool) × HasBitsAlone frame bits × Encode bits fields
bits_alone frame fields has = first_also HasFields HasBits AreIn fields_of_bits bits_of_fields frame.offers fields has

one_bits_alone : (frame : Frame) (a b : List Bool) → HasBitsAlone frame a → HasBitsAlone frame b → a ≡ b
one_bits_alone frame a b x y = one_first_of HasBits one_bits frame.offers a b x y

module _ (frames : List Frame) where
  pub fields_together : (frame : Frame) (bits : List Bool) → HasBitsTogether frames frame bits →
      (fields : Sib1) × HasFieldsTogether frames frame fields × AreIn fields bits
  fields_together frame bits has =
      first_also (HasBitsWith frames frame.period) (HasFieldsWith frames frame.period) Encode
      (bits_of_fields_with frames frame.period) (fields_of_bits_with frames frame.period) frame.offers bits has

  bits_together : (frame : Frame) (fields : Sib1) → HasFieldsTogether frames frame fields →
      (bits : List Bool) × HasBitsTogether frames frame bits × Encode bits fields
  bits_together frame fields has =
      first_also (HasFieldsWith frames frame.period) (HasBitsWith frames frame.period) AreIn
      (fields_of_bits_with frames frame.period) (bits_of_fields_with frames frame.period) frame.offers fields has

  one_bits_together : (frame : Frame) (a b : List Bool) → HasBitsTogether frames frame a → HasBitsTogether frames frame b → a ≡ b
  one_bits_together frame a b x y = one_first_of (HasBitsWith frames frame.period) (one_bits_with frames frame.period) frame.offers a b x y

-- ---- the frames of a cell

module _ (wide : Wide) (cell : Cell) (start sfn : ℕ) where
  -- a tried frame has fields alone if its answer alone is these fields
  alone_at : (frames : List Frame) → AreTried wide cell start sfn frames → (k : ℕ) (d : Frame) (fields : Sib1) → k < length frames →
      IsAlone wide cell start sfn (even_frame sfn k) (Ok fields) → HasFieldsAlone (get_or frames k d) fields
  alone_at frames tried k d fields inside alone =
      subst (λ frame. HasFieldsAlone frame fields)
      (one_frame _ _ (sfn + even_frame sfn k) alone.frame (get_or frames k d) alone.is (tried.each k inside d)) alone.answers

  -- and the other way round
  alone_from : (frames : List Frame) → AreTried wide cell start sfn frames → (k : ℕ) (d : Frame) (fields : Sib1) → k < length frames →
      HasFieldsAlone (get_or frames k d) fields → IsAlone wide cell start sfn (even_frame sfn k) (Ok fields)
  alone_from frames tried k d fields inside has = record { frame = get_or frames k d; is = tried.each k inside d; answers = has }

  -- the block of the first frame that has fields alone
  pub alone_block : (i : ℕ) (frame : Frame) (bits : List Bool) → IsTried (narrowed wide) start sfn i → IsFrame wide cell start sfn (even_frame sfn i) frame →
      HasBitsAlone frame bits → NoneBelow wide cell start sfn i → AreSystemBits wide cell start sfn bits
  alone_block i frame bits whole is has none =
      let (frames, tried) = some_tried wide cell start sfn in
      let inside : i < length frames = (tried.tried i).1 whole in
      record {
        frames = frames;
        tried = tried;
        are = inl (record {
          at = i;
          inside = inside;
          has = λ d. subst (λ f. HasBitsAlone f bits) (one_frame _ _ (sfn + even_frame sfn i) frame (get_or frames i d) is (tried.each i inside d)) has;
          none = λ k d low below other a.
              let found = fields_alone (get_or frames k d) other a in
              none k found.0 below (alone_from frames tried k d found.0 (omega (arith, below, inside)) found.1);
        });
      }

  module _ (reason : Sib1Reason) (frames : List Frame) (unread : AreUnread wide cell start sfn reason frames) where
    none_alone : HaveNone HasBitsAlone frames
    none_alone k d inside bits has =
        let found = fields_alone (get_or frames k d) bits has in
        unread.alone.none k found.0 ((unread.tried.tried k).0 inside) (alone_from frames unread.tried k d found.0 inside found.1)

    -- the block of the first frame that has fields together with others
    pub together_block : (bits : List Bool) → IsFirstOf (HasBitsTogether frames) frames bits → AreSystemBits wide cell start sfn bits
    together_block bits first =
        record { frames = frames; tried = unread.tried; are = inr (inl (record { alone = none_alone; first = first })) }

    -- no frame has fields
    pub no_block : HaveNone (HasFieldsTogether frames) frames → AreSystemBits wide cell start sfn []
    no_block none = record {
      frames = frames;
      tried = unread.tried;
      are = inr (inr (record {
        alone = none_alone;
        together = all_none_also (HasFieldsTogether frames) (HasBitsTogether frames) AreIn (fields_together frames) frames none;
        empty = refl;
      }));
    }

-- ---- there is at most one block

one_are : (frames : List Frame) (a b : List Bool) → AreBitsOf frames a → AreBitsOf frames b → a ≡ b
one_are frames a b (inl x) (inl y) = one_first_of HasBitsAlone one_bits_alone frames a b x y
one_are frames a b (inl x) (inr (inl y)) = absurd (first_of-none HasBitsAlone frames a y.alone x)
one_are frames a b (inl x) (inr (inr y)) = absurd (first_of-none HasBitsAlone frames a y.alone x)
one_are frames a b (inr (inl x)) (inl y) = absurd (first_of-none HasBitsAlone frames b x.alone y)
one_are frames a b (inr (inl x)) (inr (inl y)) = one_first_of (HasBitsTogether frames) (one_bits_together frames) frames a b x.first y.first
one_are frames a b (inr (inl x)) (inr (inr y)) = absurd (first_of-none (HasBitsTogether frames) frames a y.together x.first)
one_are frames a b (inr (inr x)) (inl y) = absurd (first_of-none HasBitsAlone frames b x.alone y)
one_are frames a b (inr (inr x)) (inr (inl y)) = absurd (first_of-none (HasBitsTogether frames) frames b x.together y.first)
one_are frames a b (inr (inr x)) (inr (inr y)) = x.empty ∙ sym y.empty

pub one_system_block : IsOneSystemBlock
one_system_block wide cell start sfn a b x y =
    one_are y.frames a b (subst (λ frames. AreBitsOf frames a) (one_tried wide cell start sfn x.frames y.frames x.tried y.tried) x.are) y.are

-- ---- there is one, or there are no bits

alone_or_not : (frame : Frame) → ((bits : List Bool) × HasBitsAlone frame bits) ⊎ HasNone HasBitsAlone frame
alone_or_not frame = by (first_or_none HasBits (λ offer. decided_also HasFields HasBits AreIn fields_of_bits bits_of_fields offer (fields_or_not offer)) frame.offers)
  where
    by : ((bits : List Bool) × HasBitsAlone frame bits) ⊎ HaveNone HasBits frame.offers → ((bits : List Bool) × HasBitsAlone frame bits) ⊎ HasNone HasBitsAlone frame
    by (inl found) = inl found
    by (inr none) = inr (λ bits first. first_of-none HasBits frame.offers bits none first)

with_others_or_not : (frames : List Frame) (frame : Frame) → ((bits : List Bool) × HasBitsTogether frames frame bits) ⊎ HasNone (HasBitsTogether frames) frame
with_others_or_not frames frame =
    decided_also (HasFieldsTogether frames) (HasBitsTogether frames) AreIn (fields_together frames) (bits_together frames) frame (together_or_not frames frame)

some_are : (frames : List Frame) → (bits : List Bool) × AreBitsOf frames bits
some_are frames = by (first_or_none HasBitsAlone alone_or_not frames) (first_or_none (HasBitsTogether frames) (with_others_or_not frames) frames)
  where
    by : ((bits : List Bool) × IsFirstOf HasBitsAlone frames bits) ⊎ HaveNone HasBitsAlone frames →
        ((bits : List Bool) × IsFirstOf (HasBitsTogether frames) frames bits) ⊎ HaveNone (HasBitsTogether frames) frames →
        (bits : List Bool) × AreBitsOf frames bits
    by (inl (bits, first)) later = (bits, inl first)
    by (inr none) (inl (bits, first)) = (bits, inr (inl (record { alone = none; first = first })))
    by (inr none) (inr never) = ([], inr (inr (record { alone = none; together = never; empty = refl })))

pub some_system_block : IsSomeSystemBlock
some_system_block wide cell start sfn =
    let (frames, tried) = some_tried wide cell start sfn in
    let (bits, are) = some_are frames in (bits, record { frames = frames; tried = tried; are = are })

-- ---- the fields are in the block

module _ (wide : Wide) (cell : Cell) (start sfn : ℕ) (frames : List Frame) (tried : AreTried wide cell start sfn frames) where
  first_read : (fields : Sib1) → IsFirstOf HasFieldsAlone frames fields → IsFirstRead (IsAlone wide cell start sfn) (narrowed wide) start sfn fields
  first_read fields first =
      let inside = first.inside in
      record {
        i = first.at;
        tried = (tried.tried first.at).0 inside;
        answers = alone_from wide cell start sfn frames tried first.at no_frame fields inside (first.has no_frame);
        first = λ h other before alone.
            first.none h no_frame (omega arith) before other (alone_at wide cell start sfn frames tried h no_frame other (omega (arith, before, inside)) alone);
      }

  none_read : HaveNone HasBitsAlone frames → (i : ℕ) (fields : Sib1) → IsTried (narrowed wide) start sfn i →
      IsAlone wide cell start sfn (even_frame sfn i) (Ok fields) → ⊥
  none_read none i fields whole alone =
      let inside : i < length frames = (tried.tried i).1 whole in
      let found = bits_alone (get_or frames i no_frame) fields (alone_at wide cell start sfn frames tried i no_frame fields inside alone) in
      none i no_frame inside found.0 found.1

  some_unread : HaveNone HasBitsAlone frames → 0 < length frames → (reason : Sib1Reason) × AreUnread wide cell start sfn reason frames
  some_unread none some = by (some_alone wide cell start sfn 0)
    where
      by : (answer : Result Sib1 Sib1Reason) × IsAlone wide cell start sfn (even_frame sfn 0) answer → (reason : Sib1Reason) × AreUnread wide cell start sfn reason frames
      by (Ok fields, alone) = absurd (none_read none 0 fields ((tried.tried 0).0 some) alone)
      by (Err reason, alone) = (reason, record { tried = tried; alone = record { none = none_read none; refused = alone } })

  -- the system information is fields that `bits` encode, or there are no fields and no bits
  abbrev Tied : List Bool → Type 0
  Tied bits =
      ((fields : Sib1) × IsWideSystem wide cell start sfn (Ok fields) × Encode bits fields)
      ⊎ ((bits ≡ []) × ((fields : Sib1) → IsWideSystem wide cell start sfn (Ok fields) → ⊥))

  tied_alone : (bits : List Bool) → IsFirstOf HasBitsAlone frames bits → Tied bits
  tied_alone bits first =
      let found = first_also HasBitsAlone HasFieldsAlone Encode bits_alone fields_alone frames bits first in
      inl (found.0, inl (first_read found.0 found.1), found.2)

  tied_together : (bits : List Bool) → AreReadTogether frames bits → Tied bits
  tied_together bits x =
      let found = first_also (HasBitsTogether frames) (HasFieldsTogether frames) Encode (bits_together frames) (fields_together frames) frames bits x.first in
      let inside = x.first.inside in
      let unread = some_unread x.alone (omega (arith, inside)) in
      inl (found.0, inr (record { reason = unread.0; frames = frames; unread = unread.1; first = found.1 }), found.2)

  tied_unread : (bits : List Bool) → AreNotRead frames bits → Tied bits
  tied_unread bits x = inr (x.empty, none)
    where
      none : (fields : Sib1) → IsWideSystem wide cell start sfn (Ok fields) → ⊥
      none fields (inl read) = none_read x.alone read.i fields read.tried read.answers
      none fields (inr read) =
          first_of-none (HasFieldsTogether frames) frames fields
          (all_none_also (HasBitsTogether frames) (HasFieldsTogether frames) Encode (bits_together frames) frames x.together)
          (subst (λ frames. IsFirstOf (HasFieldsTogether frames) frames fields) (one_tried wide cell start sfn read.frames frames read.unread.tried tried) read.first)

  tied : (bits : List Bool) → AreBitsOf frames bits → Tied bits
  tied bits (inl first) = tied_alone bits first
  tied bits (inr (inl x)) = tied_together bits x
  tied bits (inr (inr x)) = tied_unread bits x

  read_in : (answer : Result Sib1 Sib1Reason) (bits : List Bool) → IsWideSystem wide cell start sfn answer → Tied bits → IsReadIn bits answer
  read_in (Ok fields) bits x (inl (other, system, says)) =
      subst (λ f. Encode bits f) (same_fields other fields (one_wide_system wide cell start sfn (Ok other) (Ok fields) system x)) says
  read_in (Ok fields) bits x (inr (empty, none)) = absurd (none fields x)
  read_in (Err reason) bits x (inl (fields, system, says)) =
      absurd (not_both fields reason (one_wide_system wide cell start sfn (Ok fields) (Err reason) system x))
  read_in (Err reason) bits x (inr (empty, none)) = empty

pub system_is_in_bits : SystemIsInBits
system_is_in_bits wide cell start sfn answer bits x y =
    read_in wide cell start sfn y.frames y.tried answer bits x (tied wide cell start sfn y.frames y.tried bits y.are)
