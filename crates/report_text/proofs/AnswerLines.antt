-- The text of answers, line by line.
use Rattle.std.proofs.Common.{◌≡◌, ℕ, suc, ◌+◌, ◌<◌, ◌≤◌, Bool, List, [], ◌++◌, length, drop, get_or, refl, ap, sym, subst, ◌∙◌, append_assoc, append-nil, drop-cons, add-one}
use Rattle.std.proofs.Math.ListN.{drop_of_length-le}
use Rattle.report_text.specs.Answers.{answer_line, answer_lines, check_head, check_text}

-- before the first line all lines remain
pub lines_none : (answers : List Bool) (text : List ℕ) → text ≡ check_head (length answers) → text ++ answer_lines 0 answers ≡ check_text answers
unfolding check_text
lines_none answers text e = rw e refl

-- after each line one fewer remains
pub lines_more : (answers : List Bool) (n : ℕ) (d : Bool) (text line all : List ℕ) → n < length answers → text ++ answer_lines n (drop n answers) ≡ all → line ≡ answer_line n (get_or answers n d) →
    (text ++ line) ++ answer_lines (n + 1) (drop (n + 1) answers) ≡ all
unfolding answer_lines
lines_more answers n d text line all inside so_far e =
    let next : answer_lines n (drop n answers) ≡ answer_line n (get_or answers n d) ++ answer_lines (suc n) (drop (suc n) answers) = rw (drop-cons answers n d inside) refl in
    let there : (text ++ line) ++ answer_lines (suc n) (drop (suc n) answers) ≡ all =
    append_assoc text line (answer_lines (suc n) (drop (suc n) answers)) ∙ ap (λ l. text ++ (l ++ answer_lines (suc n) (drop (suc n) answers))) e ∙ ap (λ l. text ++ l) (sym next) ∙ so_far in
    subst (λ m. (text ++ line) ++ answer_lines m (drop m answers) ≡ all) (sym (add-one n)) there

-- after the last line none remains
pub lines_all : (answers : List Bool) (n : ℕ) (text all : List ℕ) → length answers ≤ n → text ++ answer_lines n (drop n answers) ≡ all → text ≡ all
unfolding answer_lines
lines_all answers n text all past so_far =
    let nothing : drop n answers ≡ [] = drop_of_length-le answers past in
    let none : answer_lines n (drop n answers) ≡ [] = rw nothing refl in
    sym (append-nil text) ∙ ap (λ l. text ++ l) (sym none) ∙ so_far
