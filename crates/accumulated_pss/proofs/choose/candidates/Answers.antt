use Rattle.std.proofs.Common.{◌≡◌, ◌∙◌, ◌<◌, ◌≤◌, ◌++◌, [], ◌∷◌, ℕ, Bool, List, arith, ap, ap₂, sym, subst, take, take_all, filter, nat_lt, length, cond}
use Rattle.std.specs.List.{All}
use Rattle.std.proofs.lemmas.List.Elements.{filter_more}
use Rattle.accumulated_pss.specs.Sums.{IsPosition, row_in}
use Rattle.accumulated_pss.specs.Maxima.{precedes, rank, candidates}
use Rattle.accumulated_pss.proofs.Listed.{maxima_are_positions, candidates_are_positions}
use Rattle.accumulated_pss.proofs.Short.{list_is_short}
use Rattle.accumulated_pss.proofs.choose.candidates.Goals as goal

abbrev test : List ℕ → ℕ → Bool
test row t = nat_lt (rank row t) 64

pub rank-requires-clause-maxima : goal.rank-requires-clause-maxima
rank-requires-clause-maxima c = subst (All IsPosition) (sym (c.deref.ensures.value ∙ c.in_ok-maxima.ensures)) (maxima_are_positions c.row-row.result.now)

pub rank-requires-clause-t : goal.rank-requires-clause-t
rank-requires-clause-t c =
    let all = subst (All IsPosition) (sym c.in_ok-maxima.ensures) (maxima_are_positions c.row-row.result.now) in
    let inside : c.loop-k.k < length c.in_ok-maxima.maxima.items = omega (arith, c.loop-k-test.true, c.len-k-end.ensures) in
    subst IsPosition (sym c.index-t.ensures) (all c.loop-k.k c.index-t.result.now inside)

pub loop-k-preserved : goal.loop-k-preserved
loop-k-preserved c =
    let row = c.row-row.result.now in
    let items = c.in_ok-maxima.maxima.items in
    let t = c.index-t.result.now in
    let inside : c.loop-k.k < length items = omega (arith, c.loop-k-test.true, c.len-k-end.ensures) in
    let selected : nat_lt c.rank.result 64 ≡ test row t =
    ap (λ n. nat_lt n 64) (c.rank.ensures ∙ ap (λ us. length (filter (λ u. precedes row u t) us)) (c.deref.ensures.value ∙ c.in_ok-maxima.ensures)) in
    c.in_ok-add.ensures
    ∙ ap₂ (λ (before : List ℕ) (b : Bool). before ++ cond b (t ∷ []) []) c.loop-k.invariant selected
    ∙ ap (λ x. filter (test row) (take c.loop-k.k items) ++ cond (test row x) (x ∷ []) []) c.index-t.ensures
    ∙ sym (filter_more (test row) items c.loop-k.k t inside)

pub returns-clause-list : goal.returns-clause-list
unfolding candidates
returns-clause-list c =
    let row = c.row-row.result.now in
    let items = c.in_ok-maxima.maxima.items in
    c.loop-k.invariant ∙ ap (filter (test row)) (take_all c.loop-k.k items (omega (arith, c.loop-k-test.false, c.len-k-end.ensures)) ∙ c.in_ok-maxima.ensures)
    ∙ ap candidates c.row-row.ensures.value

pub returns-clause-positions : goal.returns-clause-positions
returns-clause-positions c = subst (All IsPosition) (sym (returns-clause-list c)) (candidates_are_positions (row_in c.args.sums.now c.args.n2))

pub returns-clause-few : goal.returns-clause-few
returns-clause-few c = subst (λ (xs : List ℕ). length xs ≤ 64) (sym (returns-clause-list c)) (list_is_short (row_in c.args.sums.now c.args.n2))
