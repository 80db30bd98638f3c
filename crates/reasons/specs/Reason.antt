-- Why a cell identity is in a recording's list or not: the first rule that fails. (own)
use Rattle.std.specs.Prelude.{◌≡◌, ℕ, ◌/◌, ◌%◌, Bool, nat_eq, MatchBool, List, [], ◌∷◌, filter, map}
use Rattle.std.specs.List.{AllZip}
use Rattle.cs_num.specs.declared.Sample.{Sample}
use Rattle.lte_types.specs.Frames.{frames_from}
use Rattle.lte_types.specs.Carrier.{prefix_of}
use Rattle.lte_types.specs.Numerology.{symbol_step}
use Rattle.lte_types.specs.declared.carrier.Carrier.{Carrier}
use Rattle.lte_types.specs.declared.entry.Entry.{Entry}
use Rattle.lte_types.specs.declared.hit.Hit.{Hit}
use Rattle.pss_search.specs.Hits.{hits_of}
use Rattle.sss_detect.specs.Identity.{prefix_scores, prefix_identity}
use Rattle.sss_detect.specs.Second.{choice_of, prefix_group_choice}
use Rattle.explain.specs.Receiver.{Receiver, has_step_before, place_by, sums_by}
use Rattle.explain.specs.Entries.{IsListFor}
use Rattle.reasons.specs.declared.reason.Reason.{Reason}
use Rattle.reasons.specs.declared.reason.Reason.TheVariants.{Listed, NoHit, NoRoom, OtherIdentity, NoMib}
use Rattle.reasons.specs.declared.reason.Attempt.{Attempt}
use Rattle.reasons.specs.declared.reason.OtherCell.{OtherCell}
use Rattle.reasons.specs.declared.reason.StrongestPlace.{StrongestPlace}
use Rattle.reasons.specs.Strongest.{thousandths, IsStrongestPlace}
use Rattle.reasons.specs.Attempt.{IsClosest}

-- ---- what is listed

-- whether an entry has the cell identity `identity`
abbrev pub has_identity : ℕ → Entry → Bool
has_identity identity entry = nat_eq entry.id identity

-- the reason for a listed entry: that its cell is listed, with its start, frame number and antenna port count
abbrev pub listed : Entry → Reason
listed entry = Listed (record { start = entry.start; sfn = entry.sfn; ports = entry.ports })

-- `reasons` are those for the entries of the recording's list with the cell identity `identity`, in listing order
pub record AreListed (receiver : Receiver) (recording : List Sample) (identity : ℕ) (reasons : List Reason) :
    Type 0 where
  pub list : List Entry
  pub is_list : IsListFor receiver recording list
  pub each : reasons ≡ map listed (filter (has_identity identity) list)

-- ---- the rules that a hit may fail, in their order

-- the fraction of the energy at a hit that the primary signal explains, in thousandths, rounded down
abbrev pub ratio_of : Hit → ℕ
ratio_of hit = thousandths hit.peak hit.energy hit.n2

-- the reason if the useful part of the preceding symbol, which carries the secondary signal, begins before the
-- recording
abbrev pub no_room : Carrier → Hit → Reason
no_room carrier hit = NoRoom (record {
  t = hit.t;
  ratio = ratio_of hit;
  step = symbol_step (prefix_of carrier);
})

-- the report on a hit whose cell has another identity: the identity, the score of its group and half-frame, and the
-- half-frame that scores better with the group of `identity`, with its score
abbrev pub other_cell : Carrier → List Sample → ℕ → Hit → OtherCell
other_cell carrier recording identity hit =
    let prefix = prefix_of carrier in
    record {
      t = hit.t;
      ratio = ratio_of hit;
      id = (place_by carrier recording hit).id;
      best = choice_of (prefix_scores prefix recording hit) (prefix_identity prefix recording hit);
      own = prefix_group_choice prefix recording hit (identity / 3);
    }

-- the reason if no frames of the hit's cell carry a MIB that the receiver accepts. Its attempt is that on the cell's
-- first frame alone.
pub record HasNoMib (receiver : Receiver) (recording : List Sample) (hit : Hit) (reason : Reason) : Type 0 where
  pub attempt : Attempt
  pub closest : IsClosest
      (λ phase. sums_by receiver recording (place_by receiver.carrier recording hit) (frames_from 1 0 phase)) attempt
  pub is : reason ≡ NoMib (record {
    t = hit.t;
    ratio = ratio_of hit;
    start = (place_by receiver.carrier recording hit).start;
    attempt = attempt;
  })

-- `reason` is the first rule that the cell `identity` fails at a hit of its primary signal, if the list has no entry
-- with that identity
abbrev pub IsFirstFailing : Receiver → List Sample → ℕ → Hit → Reason → Type 0
IsFirstFailing receiver recording identity hit reason =
    MatchBool (has_step_before receiver.carrier hit)
    (MatchBool (nat_eq (place_by receiver.carrier recording hit).id identity)
    (HasNoMib receiver recording hit reason)
    (reason ≡ OtherIdentity (other_cell receiver.carrier recording identity hit)))
    (reason ≡ no_room receiver.carrier hit)

-- ---- the reasons for an identity

-- whether a hit belongs to the primary signal n2
abbrev pub has_root : ℕ → Hit → Bool
has_root n2 hit = nat_eq hit.n2 n2

-- `reasons` has one item: the PSS `n2` has no hit, and is strongest at the sample `place`
pub record HasNoHit (recording : List Sample) (n2 : ℕ) (reasons : List Reason) : Type 0 where
  pub place : StrongestPlace
  pub strongest : IsStrongestPlace recording n2 place
  pub is : reasons ≡ NoHit place ∷ []

-- `reasons` has each listed entry of the identity. If there is none, it has for each hit of the identity's primary
-- signal the first rule that fails there. If there is no such hit either, it has the sample at which that signal is
-- strongest.
abbrev pub AreReasons : Receiver → List Sample → ℕ → List Entry → List Hit → List Reason → Type 0
AreReasons receiver recording identity (entry ∷ entries) hits reasons = reasons ≡ map listed (entry ∷ entries)
AreReasons receiver recording identity [] [] reasons = HasNoHit recording (identity % 3) reasons
AreReasons receiver recording identity [] (hit ∷ hits) reasons =
    AllZip (IsFirstFailing receiver recording identity) (hit ∷ hits) reasons

-- `reasons` say why a cell identity is in a receiver's list of a recording or not
pub record IsReasonFor (receiver : Receiver) (recording : List Sample) (identity : ℕ) (reasons : List Reason) :
    Type 0 where
  pub list : List Entry
  pub is_list : IsListFor receiver recording list
  pub are : AreReasons receiver recording identity (filter (has_identity identity) list)
      (filter (has_root (identity % 3)) (hits_of recording)) reasons
