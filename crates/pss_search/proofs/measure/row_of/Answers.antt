use Rattle.std.proofs.Common.{ℕ, ◌∙◌, ◌≤◌, ◌^◌, ap, [], ◌∷◌}
use Rattle.std.proofs.lemmas.List.Elements.{All-cons, All-nil}
use Rattle.cs_num.specs.Complex.{square, value_at}
use Rattle.pss_search.specs.Correlation.{peak}
use Rattle.pss_search.proofs.measure.row_of.Goals as goal

pub returns : goal.returns
unfolding peak
returns c = λ recording t sums total.
    let e0 = c.square_of.ensures.value ∙ ap (λ s. square (value_at s 0)) sums in
    let e1 = c.square_of-2.ensures.value ∙ ap (λ s. square (value_at s 1)) sums in
    let e2 = c.square_of-3.ensures.value ∙ ap (λ s. square (value_at s 2)) sums in
    let p : ℕ → Type 0 = λ n. n ≤ 2 ^ 63 in
    record {
      peaks = cc;
      energy = total;
      small_peaks =
          All-cons p c.square_of.result (c.square_of-2.result ∷ c.square_of-3.result ∷ []) c.square_of.ensures.small
          (All-cons p c.square_of-2.result (c.square_of-3.result ∷ []) c.square_of-2.ensures.small
          (All-cons p c.square_of-3.result [] c.square_of-3.ensures.small (All-nil p)));
      small_energy = c.requires.few;
    }
