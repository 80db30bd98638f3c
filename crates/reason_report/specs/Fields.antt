-- The rule and the fields of a reason, for its line and its JSON object. (own)
use Rattle.std.specs.Prelude.{ℕ, List, [], ◌∷◌, codes, unwrap_or}
use Rattle.report_parts.specs.Fields.{NamedData, natural, integer}
use Rattle.reasons.specs.declared.reason.EarlyHit.{EarlyHit}
use Rattle.reasons.specs.declared.reason.ListedCell.{ListedCell}
use Rattle.reasons.specs.declared.reason.OtherCell.{OtherCell}
use Rattle.reasons.specs.declared.reason.Reason.{Reason}
use Rattle.reasons.specs.declared.reason.Reason.TheVariants.{Listed, NoHit, NoRoom, OtherIdentity, NoMib}
use Rattle.reasons.specs.declared.reason.StrongestPlace.{StrongestPlace}
use Rattle.reasons.specs.declared.reason.UnreadCell.{UnreadCell}
use Rattle.reason_report.specs.Words.{no_hit_word, unread_word}

-- the rule that fails, or `listed`
abbrev pub rule_of : Reason → List ℕ
rule_of (Listed cell) = codes "listed"
rule_of (NoHit place) = no_hit_word place.ratio
rule_of (NoRoom hit) = codes "no-room"
rule_of (OtherIdentity cell) = codes "other-identity"
rule_of (NoMib cell) = unread_word cell.attempt

-- the fields of a listed cell: its first frame's start and number, and its antenna port count
abbrev pub listed_fields : ListedCell → List NamedData
listed_fields cell =
    (codes "at", natural cell.start) ∷
    (codes "sfn", natural cell.sfn) ∷
    (codes "ports", natural cell.ports) ∷ []

-- the fields of an identity without a hit: the sample where the PSS is strongest, and its energy fraction in
-- thousandths; a hit has at least 250
abbrev pub strongest_fields : StrongestPlace → List NamedData
strongest_fields place =
    (codes "best", natural place.t) ∷
    (codes "ratio", natural place.ratio) ∷
    (codes "needs", natural 250) ∷ []

-- the fields of a hit too early for an SSS: its sample and energy fraction, and the first sample with room for an SSS
abbrev pub room_fields : EarlyHit → List NamedData
room_fields hit =
    (codes "hit", natural hit.t) ∷
    (codes "ratio", natural hit.ratio) ∷
    (codes "needs", natural hit.step) ∷ []

-- the fields of a hit whose cell has another identity: its sample and energy fraction, that identity, its score, and
-- the score of the requested identity
abbrev pub other_fields : OtherCell → List NamedData
other_fields cell =
    (codes "hit", natural cell.t) ∷
    (codes "ratio", natural cell.ratio) ∷
    (codes "identity", natural cell.id) ∷
    (codes "score", integer cell.best.score) ∷
    (codes "own", integer cell.own.score) ∷ []

-- the fields of a hit whose cell has no accepted MIB: its sample and energy fraction, the cell's frame start, and the
-- attempt that is closest to a MIB; 0 ports if none was decoded
abbrev pub unread_fields : UnreadCell → List NamedData
unread_fields cell =
    (codes "hit", natural cell.t) ∷
    (codes "ratio", natural cell.ratio) ∷
    (codes "at", natural cell.start) ∷
    (codes "phase", natural cell.attempt.phase) ∷
    (codes "cost", natural cell.attempt.cost) ∷
    (codes "total", natural cell.attempt.total) ∷
    (codes "ports", natural (unwrap_or cell.attempt.ports 0)) ∷ []

-- the fields of a reason, in the order of its line
abbrev pub reason_fields : Reason → List NamedData
reason_fields (Listed cell) = listed_fields cell
reason_fields (NoHit place) = strongest_fields place
reason_fields (NoRoom hit) = room_fields hit
reason_fields (OtherIdentity cell) = other_fields cell
reason_fields (NoMib cell) = unread_fields cell
