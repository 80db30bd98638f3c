-- The text of PSS detections (hits). Numbers are decimal, and every line ends with a line feed. (own)
use Rattle.std.specs.Prelude.{ℕ, List, ◌++◌, length, codes}
use Rattle.std.specs.List.{flat_map}
use Rattle.std.specs.Fmt.{decimal}
use Rattle.lte_types.specs.declared.hit.Hit.{Hit}
use Rattle.lte_types.specs.Numerology.{subframe_of}
use Rattle.hit_details.specs.declared.hits.IdentifiedHit.{IdentifiedHit}

-- a line with a hit's sample and its identity within the group
abbrev pub root_line : ℕ → ℕ → List ℕ
root_line t n2 = decimal t ++ codes " " ++ decimal n2 ++ codes "\n"

-- a hit's line
abbrev pub hit_line : Hit → List ℕ
hit_line hit = root_line hit.t hit.n2

-- the line with the number of hits
abbrev pub hits_head : ℕ → List ℕ
hits_head count = codes "hits " ++ decimal count ++ codes "\n"

-- the text of hits: the line with their number, then a line for each hit
unfoldable pub hits_text : List Hit → List ℕ
hits_text hits = hits_head (length hits) ++ flat_map hit_line hits

-- ---- hits with their identities

-- a line with a hit's sample, cell identity, subframe (0 or 5) and frame start
abbrev pub place_line : ℕ → ℕ → ℕ → ℕ → List ℕ
place_line t id subframe start =
    decimal t ++ codes " " ++ decimal id ++ codes " " ++ decimal subframe ++ codes " " ++ decimal start ++ codes "\n"

-- an identified hit's line; the reported subframe is the first one in the hit's half-frame
abbrev pub id_line : IdentifiedHit → List ℕ
id_line found = place_line found.hit.t found.id (subframe_of found.half) found.start

abbrev pub ids_head : ℕ → List ℕ
ids_head count = codes "ids " ++ decimal count ++ codes "\n"

-- the text of identified hits: the line with their number, then a line for each hit
unfoldable pub ids_text : List IdentifiedHit → List ℕ
ids_text hits = ids_head (length hits) ++ flat_map id_line hits
