-- PSS detections (hits) as JSON: an array with an object for each hit, whose keys are in byte order. (own)
use Rattle.std.specs.Prelude.{ℕ, List, codes}
use Rattle.serde_json.specs.Data.{Data, object, Members, no_members, put}
use Rattle.serde_json.specs.Written.{compact_text}
use Rattle.lte_types.specs.declared.hit.Hit.{Hit}
use Rattle.lte_types.specs.Numerology.{subframe_of}
use Rattle.sss_detect.specs.declared.rank.Choice.{Choice}
use Rattle.sss_detect.specs.declared.rank.Ranking.{Ranking}
use Rattle.report_parts.specs.Fields.{natural, integer, list_of}
use Rattle.hit_details.specs.declared.hits.IdentifiedHit.{IdentifiedHit}
use Rattle.hit_details.specs.declared.hits.MeasuredHit.{MeasuredHit}
use Rattle.hit_details.specs.declared.hits.MeasuredId.{MeasuredId}

-- `members`, with a hit's sample and its identity within the group added
abbrev pub hit_members : Hit → Members → Members
hit_members hit members = put (codes "n2") (natural hit.n2) (put (codes "t") (natural hit.t) members)

-- `members`, with the three numbers of a hit's metric added
abbrev pub metric_members : ℕ → ℕ → ℕ → Members → Members
metric_members peak energy power members =
    put (codes "power") (natural power) (
    put (codes "energy") (natural energy) (
    put (codes "peak") (natural peak) members))

-- `members`, with a hit's cell identity, frame start and subframe added; the reported subframe is the first one in the
-- hit's half-frame
abbrev pub identity_members : IdentifiedHit → Members → Members
identity_members found members =
    put (codes "at") (natural found.start) (
    put (codes "subframe") (natural (subframe_of found.half)) (
    put (codes "identity") (natural found.id) members))

-- the object for a hit
abbrev pub hit_value : MeasuredHit → Data
hit_value measured =
    object (metric_members measured.peak measured.energy measured.power (hit_members measured.hit no_members))

-- the JSON of hits, without spaces
unfoldable pub hits_json : List MeasuredHit → List ℕ
hits_json hits = compact_text (list_of hit_value hits)

-- the object for an SSS group and a half-frame, with the score of the pair
abbrev pub choice_value : Choice → Data
choice_value choice = object (
    put (codes "subframe") (natural (subframe_of choice.half)) (
    put (codes "score") (integer choice.score) (
    put (codes "group") (natural choice.n1) no_members)))

-- the object for the two best pairs of SSS group and half-frame
abbrev pub ranking_value : Ranking → Data
ranking_value ranking = object (
    put (codes "second") (choice_value ranking.second) (
    put (codes "best") (choice_value ranking.best) no_members))

-- the object for a hit, with its cell identity and its SSS ranking
abbrev pub id_value : MeasuredId → Data
id_value measured = object (
    metric_members measured.peak measured.energy measured.power (
    put (codes "secondary") (ranking_value measured.ranking) (
    identity_members measured.found (hit_members measured.found.hit no_members))))

-- the JSON of identified hits, without spaces
unfoldable pub ids_json : List MeasuredId → List ℕ
ids_json hits = compact_text (list_of id_value hits)
