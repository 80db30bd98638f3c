-- Entries and their readings, in step: the first in both lists, and one more in each.
use Rattle.std.proofs.Common.{◌≡◌, ℕ, ◌+◌, ◌<◌, List, [], ◌∷◌, ◌++◌, length, take, get_or, ap, sym, subst, ◌∙◌, arith}
use Rattle.std.specs.List.{AllZip}
use Rattle.std.proofs.lemmas.List.{take_more}
use Rattle.std.proofs.lemmas.Slice.Zip.{AllZip-long}
use Rattle.finite.proofs.Zips.{zip_read}
use Rattle.cs_num.specs.declared.Sample.{Sample}
use Rattle.lte_types.specs.declared.entry.Entry.{Entry}
use Rattle.explain.specs.declared.readings.Reading.{Reading}
use Rattle.explain.specs.Receiver.{Receiver, hits_by}
use Rattle.explain.specs.Entries.{IsEntryFor, IsListFor}
use Rattle.explain.specs.Laws.{IsEntryOfSome}
use Rattle.explain.specs.Readings.{IsReadingFor}
use Rattle.explain.proofs.Listed.{AllZip-more, is_sound}

pub each_more : {A B : Type 0} (R : A → B → Type 0) (list : List A) (i : ℕ) (x : A) (detected : List B) (one : B) → i < length list → x ≡ get_or list i x →
    AllZip R (take i list) detected → R x one → AllZip R (take (i + 1) list) (detected ++ one ∷ [])
each_more R list i x detected one inside is before more =
    let next : take (i + 1) list ≡ take i list ++ x ∷ [] = take_more list i x inside ∙ ap (λ e. take i list ++ e ∷ []) (sym is) in
    subst (λ l. AllZip R l (detected ++ one ∷ [])) (sym next) (AllZip-more R (take i list) detected x one before more)

module _ (receiver : Receiver) (recording : List Sample) (entries : List Entry) (readings : List Reading) (read : AllZip (IsReadingFor receiver recording) entries readings) (i : ℕ) (inside : i < length entries) where
  -- each entry has a reading
  pub has_reading : i < length readings
  has_reading = let long = AllZip-long (IsReadingFor receiver recording) entries readings read in omega (arith, long, inside)

  -- each entry in the list was read by the receiver, as the reading at the same index describes
  pub is_read : (entry : Entry) (reading : Reading) → IsListFor receiver recording entries → entry ≡ get_or entries i entry → reading ≡ get_or readings i reading →
      IsEntryOfSome (IsEntryFor receiver recording) (hits_by receiver.carrier recording) entry × IsReadingFor receiver recording entry reading
  is_read entry reading listed entry_is reading_is =
      (is_sound receiver recording entries entry listed (i, inside, sym entry_is), zip_read (IsReadingFor receiver recording) entries readings i entry reading read inside entry_is reading_is)
