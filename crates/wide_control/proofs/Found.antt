-- The grants that a list of searches finds, search after search.
use Rattle.std.proofs.Common.{◌≡◌, ◌∙◌, ℕ, ◌+◌, ◌<◌, true, false, List, [], ◌∷◌, ◌++◌, length, take, get_or, ℤ, Option, filter, ap, refl, sym, subst, arith}
use Rattle.std.specs.List.{AllZip, flat_map, insert}
use Rattle.std.proofs.lemmas.List.{append_assoc, take_more}
use Rattle.std.proofs.lemmas.List.Edits.{insert_end}
use Rattle.std.proofs.lemmas.List.Elements.{filter-append, filter_map-append}
use Rattle.std.proofs.lemmas.List.Concat.{flat_map-append}
use Rattle.std.proofs.lemmas.Slice.Zip.{AllZip-long}
use Rattle.finite.proofs.Zips.{all_zip_insert}
use Rattle.wide_cell.specs.Cell.{Cell}
use Rattle.wide_grid.specs.declared.candidate.Candidate.{Candidate}
use Rattle.wide_grid.specs.declared.group.WideReg.{WideReg}
use Rattle.wide_grid.specs.Candidate.{candidates, has_candidate}
use Rattle.wide_grant.specs.declared.grant.WideGrant.{WideGrant}
use Rattle.wide_slot.specs.Slot.{WideSeen}
use Rattle.wide_control.specs.declared.format.DciFormat.{DciFormat}
use Rattle.wide_control.specs.declared.format.DciFormat.TheVariants.{Format1A, Format1C}
use Rattle.wide_control.specs.Offer.{IsOffer}
use Rattle.wide_control.specs.Values.{candidate_values}
use Rattle.wide_control.specs.Control.{Search, searches_of, searches_among, Finds, grants_among, AreGrants}

-- related items at the ends of related lists
zip_push : {A B : Type 0} (R : A → B → Type 0) (xs : List A) (ys : List B) (x : A) (y : B) → AllZip R xs ys → R x y →
    AllZip R (xs ++ x ∷ []) (ys ++ y ∷ [])
zip_push R xs ys x y all here =
    let long : length xs ≡ length ys = sym (AllZip-long R xs ys all) in
    subst (λ l. AllZip R l (ys ++ y ∷ [])) (insert_end xs x)
    (subst (λ l. AllZip R (insert xs (length xs) x) l) (ap (λ n. insert ys n y) long ∙ insert_end ys y)
    (all_zip_insert R (length xs) xs ys x y (omega arith) here all))

-- no search finds no grant
pub no_grants : (slot : WideSeen) (sfn : ℕ) (groups : List WideReg) → AreGrants slot sfn groups [] []
no_grants slot sfn groups = record { founds = []; each = tt; given = refl }

-- what a candidate's values offer is what a search finds
pub finds_by : (slot : WideSeen) (sfn : ℕ) (groups : List WideReg) (c : Candidate) (format : DciFormat) (found : Option WideGrant)
    (cell : Cell) (values : List ℤ) → cell ≡ slot.cell → values ≡ candidate_values slot groups c →
    IsOffer cell.blocks sfn values format found → Finds slot sfn groups (record { candidate = c; format = format }) found
finds_by slot sfn groups c format found cell values same own is =
    subst (λ (v : List ℤ). IsOffer slot.cell.blocks sfn v format found) own
    (subst (λ (x : Cell). IsOffer x.blocks sfn values format found) same is)

-- one more search
pub one_more : (slot : WideSeen) (sfn : ℕ) (groups : List WideReg) (done : List Search) (search : Search) (found : Option WideGrant)
    (before after : List WideGrant) → AreGrants slot sfn groups done before → Finds slot sfn groups search found →
    after ≡ before ++ grants_among (found ∷ []) → AreGrants slot sfn groups (done ++ search ∷ []) after
one_more slot sfn groups done search found before after are finds added = record {
  founds = are.founds ++ found ∷ [];
  each = zip_push (Finds slot sfn groups) done are.founds search found are.each finds;
  given = added ∙ ap (λ l. l ++ grants_among (found ∷ [])) are.given
      ∙ sym (filter_map-append (λ (o : Option WideGrant). o) are.founds (found ∷ []));
}

-- a candidate's two searches
pub two_more : (slot : WideSeen) (sfn : ℕ) (groups : List WideReg) (done : List Search) (c : Candidate) (long short : Option WideGrant)
    (before between after : List WideGrant) → AreGrants slot sfn groups done before →
    Finds slot sfn groups (record { candidate = c; format = Format1A }) long → between ≡ before ++ grants_among (long ∷ []) →
    Finds slot sfn groups (record { candidate = c; format = Format1C }) short → after ≡ between ++ grants_among (short ∷ []) →
    AreGrants slot sfn groups (done ++ searches_of c) after
two_more slot sfn groups done c long short before between after are first one second two =
    let a : Search = record { candidate = c; format = Format1A } in
    let b : Search = record { candidate = c; format = Format1C } in
    subst (λ (l : List Search). AreGrants slot sfn groups l after) (append_assoc done (a ∷ []) (b ∷ []))
    (one_more slot sfn groups (done ++ a ∷ []) b short between after (one_more slot sfn groups done a long before between are first one) second two)

-- the searches of one more candidate
pub searches_more : (count : ℕ) (list : List Candidate) (c : Candidate) → has_candidate count c ≡ true →
    searches_among count (list ++ c ∷ []) ≡ searches_among count list ++ searches_of c
searches_more count list c has =
    let own : filter (has_candidate count) (c ∷ []) ≡ c ∷ [] = rw has refl in
    ap (flat_map searches_of) (filter-append (has_candidate count) list (c ∷ []) ∙ ap (λ l. filter (has_candidate count) list ++ l) own)
    ∙ flat_map-append searches_of (filter (has_candidate count) list) (c ∷ [])

-- a candidate that the PDCCH does not have adds no search
pub searches_same : (count : ℕ) (list : List Candidate) (c : Candidate) → has_candidate count c ≡ false →
    searches_among count (list ++ c ∷ []) ≡ searches_among count list
searches_same count list c has =
    let own : filter (has_candidate count) (c ∷ []) ≡ [] = rw has refl in
    ap (flat_map searches_of) (filter-append (has_candidate count) list (c ∷ []) ∙ ap (λ l. filter (has_candidate count) list ++ l) own)
    ∙ flat_map-append searches_of (filter (has_candidate count) list) [] ∙ append-nil (searches_among count list)
  where
    append-nil : (l : List Search) → l ++ [] ≡ l
    append-nil [] = refl
    append-nil (s ∷ l) = ap (λ rest. s ∷ rest) (append-nil l)

-- ---- steps over the candidates

-- the next candidate's searches
pub next_searched : (slot : WideSeen) (sfn : ℕ) (groups : List WideReg) (count i : ℕ) (d : Candidate) (after : List WideGrant) → i < 6 →
    has_candidate count (get_or candidates i d) ≡ true →
    AreGrants slot sfn groups (searches_among count (take i candidates) ++ searches_of (get_or candidates i d)) after →
    AreGrants slot sfn groups (searches_among count (take (i + 1) candidates)) after
next_searched slot sfn groups count i d after inside has are =
    subst (λ (l : List Candidate). AreGrants slot sfn groups (searches_among count l) after) (sym (take_more candidates i d inside))
    (subst (λ (l : List Search). AreGrants slot sfn groups l after) (sym (searches_more count (take i candidates) (get_or candidates i d) has)) are)

-- the next candidate has no searches
pub next_left_out : (slot : WideSeen) (sfn : ℕ) (groups : List WideReg) (count i : ℕ) (d : Candidate) (grants : List WideGrant) → i < 6 →
    has_candidate count (get_or candidates i d) ≡ false →
    AreGrants slot sfn groups (searches_among count (take i candidates)) grants →
    AreGrants slot sfn groups (searches_among count (take (i + 1) candidates)) grants
next_left_out slot sfn groups count i d grants inside has are =
    subst (λ (l : List Candidate). AreGrants slot sfn groups (searches_among count l) grants) (sym (take_more candidates i d inside))
    (subst (λ (l : List Search). AreGrants slot sfn groups l grants) (sym (searches_same count (take i candidates) (get_or candidates i d) has)) are)
