-- Pieces of texts.
use Rattle.std.proofs.Common.{◌≡◌, ℕ, zero, suc, ◌<◌, arith, ap, sym, ◌∙◌, List, [], ◌∷◌, ◌++◌, length, append_assoc}
use Rattle.std.specs.Prelude.{slice_index_or}
use Rattle.std.specs.List.{flat_map}
use Rattle.report_text.specs.Lines.{entry_lines, head_line, report_text}
use Rattle.report_text.specs.Pieces.{IsPiece, ListedLinesStand}

-- a piece of a text is a piece of a longer text
further : (front piece text : List ℕ) → IsPiece piece text → IsPiece piece (front ++ text)
further front piece text p = record {
  before = front ++ p.before;
  after = p.after;
  split = ap (λ t. front ++ t) p.split ∙ sym (append_assoc front (p.before ++ piece) p.after) ∙ ap (λ l. l ++ p.after) (sym (append_assoc front p.before piece));
}

-- an item's lines are a piece of the lines for all items
item_stands : {A : Type 0} (f : A → List ℕ) (xs : List A) (x : A) (k : ℕ) → k < length xs → slice_index_or xs k x ≡ x → IsPiece (f x) (flat_map f xs)
item_stands f [] x k below at = absurd (omega (arith, below))
item_stands f (y ∷ rest) x zero below at = record { before = []; after = flat_map f rest; split = ap (λ z. f z ++ flat_map f rest) at }
item_stands f (y ∷ rest) x (suc k) below at = further (f y) (f x) (flat_map f rest) (item_stands f rest x k (omega (arith, below)) at)

pub lines_stand : ListedLinesStand
unfolding report_text
lines_stand entries entry inside =
    further (head_line (length entries)) (entry_lines entry) (flat_map entry_lines entries)
    (item_stands entry_lines entries entry inside.0 inside.1 inside.2)
