-- Samples written in full pieces, while the remaining bytes wait.
use Rattle.std.proofs.Common.{◌≡◌, ℕ, ◌-◌, List, [], ◌++◌, length, take, drop, refl, ap, sym, subst, ◌∙◌, arith, length-drop, length-append, take_all, append_assoc, append-nil}
use Rattle.std.proofs.lemmas.List.{take-append-drop}
use Rattle.std.proofs.lemmas.List.Concat.{flat_map-append}
use Rattle.cs_num.specs.declared.Sample.{Sample}
use Rattle.cs_outside.specs.Outside.{SinkState}
use Rattle.cs_outside.specs.Streams.{HasWritten, HasWrittenFront, IsShortOf}
use Rattle.cs_outside.proofs.Writing.{WrittenSoFar, write_nothing, write_then, front_on, short_on}
use Rattle.sample_file.specs.Recording.{sample_bytes, bytes_of}
use Rattle.sample_file.specs.Writing.{HasWrittenPieces}

-- ---- pieces

-- at first all bytes wait
pub waiting_all : (bytes : List ℕ) (before : SinkState) → HasWrittenPieces bytes bytes before before
waiting_all bytes before = record { front = []; split = refl; whole_pieces = refl; written = write_nothing before }

all_but : (bytes rest : List ℕ) (before now : SinkState) → HasWrittenPieces bytes rest before now → WrittenSoFar bytes rest before now
all_but bytes rest before now p = record { done = p.front; split = p.split; written = p.written }

-- if nothing waited, all bytes are new
pub none_waited : (waiting bytes rest : List ℕ) (before now : SinkState) → waiting ≡ [] → HasWrittenPieces (waiting ++ bytes) rest before now →
    HasWrittenPieces bytes rest before now
none_waited waiting bytes rest before now none p = subst (λ l. HasWrittenPieces (l ++ bytes) rest before now) none p

-- full pieces from the waiting bytes are written too, and the remaining bytes wait
pub pieces_on : (bytes rest next more left : List ℕ) (before between now : SinkState) → HasWrittenPieces bytes rest before between → rest ≡ next ++ more →
    HasWrittenPieces next left between now → HasWrittenPieces bytes (left ++ more) before now
pieces_on bytes rest next more left before between now p split q = record {
  front = p.front ++ q.front;
  split = p.split ∙ ap (λ l. p.front ++ l) (split ∙ ap (λ l. l ++ more) q.split ∙ append_assoc q.front left more) ∙ sym (append_assoc p.front q.front (left ++ more));
  whole_pieces = omega (arith, p.whole_pieces, q.whole_pieces, length-append p.front q.front);
  written = write_then p.front q.front before between now p.written q.written;
}

-- if a prefix of the next bytes is written, a prefix of all bytes is written
pub pieces_front : (bytes rest next more : List ℕ) (before between now : SinkState) → HasWrittenPieces bytes rest before between → rest ≡ next ++ more →
    HasWrittenFront next between now → HasWrittenFront bytes before now
pieces_front bytes rest next more before between now p split front =
    front_on bytes rest next more before between now (all_but bytes rest before between p) split front

-- if there is too little room for the next bytes, there was too little for all
pub pieces_short : (bytes rest next more : List ℕ) (before between : SinkState) → HasWrittenPieces bytes rest before between → rest ≡ next ++ more →
    IsShortOf (length next) between → IsShortOf (length bytes) before
pieces_short bytes rest next more before between p split short =
    short_on bytes rest next more before between (all_but bytes rest before between p) split short

-- ---- the last piece

-- if the rest is written, everything is written
pub pieces_whole : (bytes rest : List ℕ) (before between now : SinkState) → HasWrittenPieces bytes rest before between →
    HasWritten rest between now → HasWritten bytes before now
pieces_whole bytes rest before between now p written =
    subst (λ l. HasWritten l before now) (sym p.split) (write_then p.front rest before between now p.written written)

-- if a prefix of the rest is written, a prefix of all bytes is written
pub last_front : (bytes rest : List ℕ) (before between now : SinkState) → HasWrittenPieces bytes rest before between →
    HasWrittenFront rest between now → HasWrittenFront bytes before now
last_front bytes rest before between now p front = pieces_front bytes rest rest [] before between now p (sym (append-nil rest)) front

-- if there is too little room for the rest, there was too little for all
pub last_short : (bytes rest : List ℕ) (before between : SinkState) → HasWrittenPieces bytes rest before between →
    IsShortOf (length rest) between → IsShortOf (length bytes) before
last_short bytes rest before between p short = pieces_short bytes rest rest [] before between p (sym (append-nil rest)) short

-- ---- the bytes of samples

-- the waiting bytes, followed by samples in two lists
pub waiting_then : (waiting : List ℕ) (rest next left : List Sample) → rest ≡ next ++ left →
    waiting ++ bytes_of rest ≡ (waiting ++ bytes_of next) ++ bytes_of left
waiting_then waiting rest next left split =
    ap (λ l. waiting ++ l) (ap bytes_of split ∙ flat_map-append sample_bytes next left) ∙ sym (append_assoc waiting (bytes_of next) (bytes_of left))

-- the first samples of the rest wait too: the new rest is `&rest[count..]`
pub samples_wait : (bytes : List ℕ) (rest : List Sample) (waiting more : List ℕ) (count : ℕ) (before now : SinkState) →
    HasWrittenPieces bytes (waiting ++ bytes_of rest) before now → more ≡ waiting ++ bytes_of (take count rest) →
    HasWrittenPieces bytes (more ++ bytes_of (take (length rest - count) (drop count rest))) before now
samples_wait bytes rest waiting more count before now p taken =
    let left = take (length rest - count) (drop count rest) in
    let all : left ≡ drop count rest = take_all (length rest - count) (drop count rest) (omega (arith, length-drop count rest)) in
    let split : rest ≡ take count rest ++ left = sym (ap (λ l. take count rest ++ l) all ∙ take-append-drop count rest) in
    subst (λ l. HasWrittenPieces bytes l before now)
    (waiting_then waiting rest (take count rest) left split ∙ ap (λ l. l ++ bytes_of left) (sym taken)) p

-- if no sample is left, only the waiting bytes are left
pub none_left : (bytes waiting : List ℕ) (left : List Sample) (before now : SinkState) → left ≡ [] → HasWrittenPieces bytes (waiting ++ bytes_of left) before now →
    HasWrittenPieces bytes waiting before now
none_left bytes waiting left before now none p =
    subst (λ l. HasWrittenPieces bytes l before now) (ap (λ s. waiting ++ bytes_of s) none ∙ append-nil waiting) p
