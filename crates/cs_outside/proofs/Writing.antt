-- Consecutive writes.
use Rattle.std.proofs.Common.{◌≡◌, ℕ, ◌+◌, ◌-◌, ◌<◌, ◌≤◌, arith, refl, ap, sym, subst, ◌∙◌, List, [], ◌++◌, length, take, drop, length-append, length-drop, take_all, append_assoc, append-nil, Option, Some, None}
use Rattle.std.specs.Prelude.{IfSome}
use Rattle.std.specs.Option.{option_map}
use Rattle.std.proofs.lemmas.List.{take-append-drop}
use Rattle.cs_outside.specs.Outside.{SinkState}
use Rattle.cs_outside.specs.Streams.{AreTaken, HasWritten, HasWrittenFront, IsShortOf}

-- before the first write, nothing is written
pub write_nothing : (before : SinkState) → HasWritten [] before before
write_nothing before = record { taken = record { appended = same before.taken; filled = full before.room }; unfailed = refl }
  where
    same : (taken : Option (List ℕ)) → taken ≡ option_map (λ l. l ++ []) taken
    same None = refl
    same (Some taken) = ap Some (sym (append-nil taken))

    full : (room : Option ℕ) → room ≡ option_map (λ n. n + 0) room
    full None = refl
    full (Some room) = ap Some (omega arith)

-- two consecutive appends are one append of both
pub taken_then : (first second : List ℕ) (before between now : SinkState) →
    AreTaken first before between → AreTaken second between now → AreTaken (first ++ second) before now
taken_then first second before between now a b = record {
  appended = b.appended ∙ ap (option_map (λ taken. taken ++ second)) a.appended ∙ joined before.taken;
  filled = a.filled ∙ ap (option_map (λ room. room + length first)) b.filled ∙ both now.room;
}
  where
    joined : (taken : Option (List ℕ)) →
        option_map (λ l. l ++ second) (option_map (λ l. l ++ first) taken) ≡ option_map (λ l. l ++ (first ++ second)) taken
    joined None = refl
    joined (Some taken) = ap Some (append_assoc taken first second)

    both : (room : Option ℕ) →
        option_map (λ n. n + length first) (option_map (λ n. n + length second) room) ≡ option_map (λ n. n + length (first ++ second)) room
    both None = refl
    both (Some room) = ap Some (omega (arith, length-append first second))

-- two consecutive writes are one write of both
pub write_then : (first second : List ℕ) (before between now : SinkState) →
    HasWritten first before between → HasWritten second between now → HasWritten (first ++ second) before now
write_then first second before between now a b = record {
  taken = taken_then first second before between now a.taken b.taken;
  unfailed = b.unfailed ∙ a.unfailed;
}

-- loop invariant: the piece is written except for `rest`
pub record WrittenSoFar (piece rest : List ℕ) (before now : SinkState) : Type 0 where
  pub done : List ℕ
  pub split : piece ≡ done ++ rest
  pub written : HasWritten done before now

-- initially the rest is the complete piece
pub written_none : (piece : List ℕ) (before : SinkState) → WrittenSoFar piece piece before before
written_none piece before = record { done = []; split = refl; written = write_nothing before }

-- the next part of the rest is written
pub written_on : (piece rest next left : List ℕ) (before between now : SinkState) → WrittenSoFar piece rest before between → rest ≡ next ++ left →
    HasWritten next between now → WrittenSoFar piece left before now
written_on piece rest next left before between now s split written = record {
  done = s.done ++ next;
  split = s.split ∙ ap (λ l. s.done ++ l) split ∙ sym (append_assoc s.done next left);
  written = write_then s.done next before between now s.written written;
}

-- the next n bytes of the rest are written, and the new rest is `&rest[n..]`
pub written_more : (piece rest : List ℕ) (n : ℕ) (before between now : SinkState) → WrittenSoFar piece rest before between → n ≤ length rest →
    HasWritten (take n rest) between now → WrittenSoFar piece (take (length rest - n) (drop n rest)) before now
written_more piece rest n before between now s fits written =
    let slice : take (length rest - n) (drop n rest) ≡ drop n rest = take_all (length rest - n) (drop n rest) (omega (arith, length-drop n rest)) in
    written_on piece rest (take n rest) (take (length rest - n) (drop n rest)) before between now s
    (sym (ap (λ l. take n rest ++ l) slice ∙ take-append-drop n rest)) written

-- if the rest is empty, the piece is written completely
pub written_whole : (piece : List ℕ) (before now : SinkState) → WrittenSoFar piece [] before now → HasWritten piece before now
written_whole piece before now s = subst (λ l. HasWritten l before now) (sym (s.split ∙ append-nil s.done)) s.written

-- the part written so far is a prefix of the piece
pub written_front : (piece rest : List ℕ) (before now : SinkState) → WrittenSoFar piece rest before now → HasWrittenFront piece before now
written_front piece rest before now s = record { front = s.done; rest = rest; split = s.split; taken = s.written.taken }

-- if m more bytes do not fit after a write, the free space was less than both together
pub short_after : (bytes : List ℕ) (m : ℕ) (before now : SinkState) → HasWritten bytes before now → IsShortOf m now → IsShortOf (length bytes + m) before
short_after bytes m before now a short = by_rooms before.room now.room a.taken.filled short
  where
    by_rooms : (room left : Option ℕ) → room ≡ option_map (λ n. n + length bytes) left → IfSome left (λ n. n < m) → IfSome room (λ n. n < length bytes + m)
    by_rooms None left e few = tt
    by_rooms (Some room) None e few = absurd (cc e)
    by_rooms (Some room) (Some left) e few = let same : room ≡ left + length bytes = cc e in omega (arith, same, few)

-- if no space is left but a rest is, the piece did not fit
pub written_full : (piece rest : List ℕ) (before now : SinkState) → WrittenSoFar piece rest before now → 0 < length rest → IfSome now.room (λ left. left ≡ 0) →
    IsShortOf (length piece) before
written_full piece rest before now s some full =
    subst (λ n. IsShortOf n before) (sym (ap length s.split ∙ length-append s.done rest)) (short_after s.done (length rest) before now s.written (none now.room full))
  where
    none : (room : Option ℕ) → IfSome room (λ left. left ≡ 0) → IfSome room (λ left. left < length rest)
    none None e = tt
    none (Some left) e = omega (arith, e, some)

-- a prefix of the second piece, written after the first, gives a prefix of both
pub front_after : (first piece : List ℕ) (before between now : SinkState) →
    HasWritten first before between → HasWrittenFront piece between now → HasWrittenFront (first ++ piece) before now
front_after first piece before between now a b = record {
  front = first ++ b.front;
  rest = b.rest;
  split = ap (λ l. first ++ l) b.split ∙ sym (append_assoc first b.front b.rest);
  taken = taken_then first b.front before between now a.taken b.taken;
}

-- a prefix of a piece is a prefix of any longer one
pub front_of_longer : (piece more : List ℕ) (before now : SinkState) →
    HasWrittenFront piece before now → HasWrittenFront (piece ++ more) before now
front_of_longer piece more before now a = record {
  front = a.front;
  rest = a.rest ++ more;
  split = ap (λ l. l ++ more) a.split ∙ append_assoc a.front a.rest more;
  taken = a.taken;
}

-- a prefix of the next part, written after the part so far, gives a prefix of the piece
pub front_on : (piece rest next left : List ℕ) (before between now : SinkState) → WrittenSoFar piece rest before between → rest ≡ next ++ left →
    HasWrittenFront next between now → HasWrittenFront piece before now
front_on piece rest next left before between now s split front =
    subst (λ l. HasWrittenFront l before now) (sym (s.split ∙ ap (λ l. s.done ++ l) split ∙ sym (append_assoc s.done next left)))
    (front_of_longer (s.done ++ next) left before now (front_after s.done next before between now s.written front))

-- if a piece does not fit, neither does a longer one
pub short_of_more : (n m : ℕ) (before : SinkState) → n ≤ m → IsShortOf n before → IsShortOf m before
short_of_more n m before few short = by_room before.room short
  where
    by_room : (room : Option ℕ) → IfSome room (λ left. left < n) → IfSome room (λ left. left < m)
    by_room None short = tt
    by_room (Some left) short = omega (arith, short, few)

-- if the next part does not fit, the piece did not fit
pub short_on : (piece rest next left : List ℕ) (before between : SinkState) → WrittenSoFar piece rest before between → rest ≡ next ++ left →
    IsShortOf (length next) between → IsShortOf (length piece) before
short_on piece rest next left before between s split short =
    short_of_more (length s.done + length next) (length piece) before
    (omega (arith, ap length s.split, length-append s.done rest, ap length split, length-append next left))
    (short_after s.done (length next) before between s.written short)
