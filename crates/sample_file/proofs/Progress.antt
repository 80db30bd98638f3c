-- The reading of samples in pieces: what is known after each read.
use Rattle.std.proofs.Common.{◌≡◌, ◌≢◌, ℕ, ◌+◌, ◌-◌, ◌*◌, ◌/◌, ◌%◌, ◌<◌, ◌≤◌, List, [], ◌∷◌, ◌++◌, length, take, drop, length-take-le, length-drop, refl, ap, sym, subst, ◌∙◌, arith, append_assoc, append-nil, length-append}
use Rattle.std.specs.List.{copy_within}
use Rattle.std.proofs.Math.Seq.{paste, take-add}
use Rattle.std.proofs.lemmas.List.Edits.{take-paste}
use Rattle.cs_num.specs.declared.Sample.{Sample}
use Rattle.lte_types.specs.Numerology.{least_samples, most_samples}
use Rattle.cs_outside.specs.Counts.{Rose}
use Rattle.cs_outside.specs.Outside.{SourceState}
use Rattle.cs_outside.specs.Streams.{HasRead, HasReadAll, HasReadOn, HasReadPart, HasReadPast, HasReadFault}
use Rattle.cs_outside.proofs.Reading.{read_then}
use Rattle.sample_file.specs.declared.form.SampleForm.{SampleForm}
use Rattle.sample_file.specs.declared.form.SampleForm.TheVariants.{Ci16, Cu8}
use Rattle.sample_file.specs.Recording.{width, samples_in}
use Rattle.sample_file.specs.Reading.{least_bytes_at, most_bytes_at, HasReadRecordingAt, HasReadRaggedAt, HasReadTooShortAt}
use Rattle.sample_file.specs.Steps.{TakesSamples, HasReadSamples}
use Rattle.sample_file.proofs.Samples.{samples_joined, length-of_whole}

-- ---- counts

-- two lists of complete samples
whole_joined : (form : SampleForm) (m n : ℕ) → m % width form ≡ 0 → n % width form ≡ 0 → (m + n) % width form ≡ 0
whole_joined Ci16 m n a b = omega (arith, a, b)
whole_joined Cu8 m n a b = omega (arith, a, b)

-- complete samples, followed by less than one more
begun_is_ragged : (form : SampleForm) (m n : ℕ) → m % width form ≡ 0 → 0 < n → n < width form → (m + n) % width form ≢ 0
begun_is_ragged Ci16 m n a some few = λ e. omega (arith, a, some, few, e)
begun_is_ragged Cu8 m n a some few = λ e. omega (arith, a, some, few, e)

enough : (factor : ℕ) (form : SampleForm) (n : ℕ) → factor * least_samples ≤ n → least_bytes_at factor form ≤ width form * n
enough factor Ci16 n h = omega (arith, h)
enough factor Cu8 n h = omega (arith, h)

too_few : (factor : ℕ) (form : SampleForm) (n : ℕ) → n < factor * least_samples → width form * n < least_bytes_at factor form
too_few factor Ci16 n h = omega (arith, h)
too_few factor Cu8 n h = omega (arith, h)

pub not_many : (factor : ℕ) (form : SampleForm) (n begun : ℕ) → width form * n + begun ≤ width form * (factor * most_samples) → n ≤ factor * most_samples
not_many factor Ci16 n begun h = omega (arith, h)
not_many factor Cu8 n begun h = omega (arith, h)

pub within_limit : (factor : ℕ) (form : SampleForm) (m : ℕ) → m ≤ width form * (factor * most_samples) → m ≤ most_bytes_at factor form
within_limit factor Ci16 m h = omega (arith, h)
within_limit factor Cu8 m h = omega (arith, h)

one_past : (factor : ℕ) (form : SampleForm) (m : ℕ) → m ≡ width form * (factor * most_samples) + 1 → m ≡ most_bytes_at factor form + 1
one_past factor Ci16 m h = omega (arith, h)
one_past factor Cu8 m h = omega (arith, h)

-- the samples taken account for all bytes except the ones that are left
pub taken_count : (form : SampleForm) (bytes : List ℕ) (before now : List Sample) (begun : List ℕ) → TakesSamples form bytes before now begun →
    width form * length now + length begun ≡ width form * length before + length bytes
taken_count form bytes before now begun t =
    let all = length-of_whole form t.whole t.of_whole in
    let more : length now ≡ length before + length (samples_in form t.whole) = ap length t.samples_are ∙ length-append before (samples_in form t.whole) in
    let bytes_are : length bytes ≡ length t.whole + length begun = ap length t.split ∙ length-append t.whole begun in
    by_form form (length now) (length before) (length (samples_in form t.whole)) (length t.whole) (length begun) (length bytes) all more bytes_are
  where
    by_form : (form : SampleForm) (a b c w r m : ℕ) → width form * c ≡ w → a ≡ b + c → m ≡ w + r → width form * a + r ≡ width form * b + m
    by_form Ci16 a b c w r m x y z = omega (arith, x, y, z)
    by_form Cu8 a b c w r m x y z = omega (arith, x, y, z)

-- the number of bytes that were read
bytes_count : (form : SampleForm) (samples : List Sample) (begun : List ℕ) (before now : SourceState) (s : HasReadSamples form samples begun before now) →
    length s.whole ≡ width form * length samples
bytes_count form samples begun before now s =
    sym (length-of_whole form s.whole s.of_whole) ∙ ap (λ l. width form * length l) (sym s.samples_are)

-- ---- samples from a buffer

-- a piece pasted over the front comes first
first_pasted : (buffer piece : List ℕ) (n : ℕ) → n ≤ length piece → take n (paste buffer 0 piece n) ≡ take n piece
first_pasted buffer piece n left =
    let none : 0 + n ≡ n = omega arith in
    subst (λ m. take m (paste buffer 0 piece n) ≡ take n piece) none (take-paste buffer 0 piece n (omega arith) left)

-- the samples in the buffer's first bytes are taken, and the bytes left are moved to the front
front_taken : (form : SampleForm) (w n : ℕ) (buffer : List ℕ) (before now : List Sample) → w + n ≤ length buffer → w % width form ≡ 0 → n < width form →
    now ≡ before ++ samples_in form (take w buffer) →
    TakesSamples form (take (w + n) buffer) before now (take n (copy_within buffer w (w + n) 0))
front_taken form w n buffer before now inside whole few samples =
    let size : length (take w buffer) ≡ w = length-take-le w buffer (omega (arith, inside)) in
    let left : n ≤ length (drop w buffer) = omega (arith, inside, length-drop w buffer) in
    let count : w + n - w ≡ n = omega arith in
    let moved : take n (copy_within buffer w (w + n) 0) ≡ take n (drop w buffer) =
    ap (λ k. take n (paste buffer 0 (drop w buffer) k)) count ∙ first_pasted buffer (drop w buffer) n left in
    record {
      whole = take w buffer;
      split = take-add w n buffer ∙ ap (λ l. take w buffer ++ l) (sym moved);
      of_whole = ap (λ m. m % width form) size ∙ whole;
      samples_are = samples;
      few = subst (λ m. m < width form) (sym (ap length moved ∙ length-take-le n (drop w buffer) left)) few;
    }

pub end_taken : (form : SampleForm) (e w : ℕ) (buffer : List ℕ) (before : List Sample) → e ≤ length buffer → w ≡ width form * (e / width form) →
    TakesSamples form (take e buffer) before (before ++ samples_in form (take w buffer)) (take (e - w) (copy_within buffer w e 0))
end_taken form e w buffer before inside cut =
    let (rest, whole, few) = parts form e w cut in
    subst (λ e'. TakesSamples form (take e' buffer) before (before ++ samples_in form (take w buffer)) (take (e - w) (copy_within buffer w e' 0))) rest
    (front_taken form w (e - w) buffer before (before ++ samples_in form (take w buffer)) (omega (arith, rest, inside)) whole few refl)
  where
    parts : (form : SampleForm) (e w : ℕ) → w ≡ width form * (e / width form) → (w + (e - w) ≡ e) × (w % width form ≡ 0) × (e - w < width form)
    parts Ci16 e w cut = (omega (arith, cut), omega (arith, cut), omega (arith, cut))
    parts Cu8 e w cut = (omega (arith, cut), omega (arith, cut), omega (arith, cut))

-- ---- the reading goes on

-- after a piece whose samples were taken
pub taken_on : (form : SampleForm) (n : ℕ) (samples after : List Sample) (begun next left : List ℕ) (before between now : SourceState) →
    HasReadSamples form samples begun before between → HasReadOn n begun next between now → TakesSamples form next samples after left →
    HasReadSamples form after left before now
taken_on form n samples after begun next left before between now s h t =
    let all : HasRead ((s.whole ++ begun) ++ h.piece) before now = read_then _ _ before between now s.read h.read in
    let same : (s.whole ++ begun) ++ h.piece ≡ (s.whole ++ t.whole) ++ left =
    append_assoc s.whole begun h.piece ∙ ap (λ l. s.whole ++ l) (sym h.joined ∙ t.split) ∙ sym (append_assoc s.whole t.whole left) in
    record {
      whole = s.whole ++ t.whole;
      of_whole = ap (λ l. l % width form) (length-append s.whole t.whole) ∙ whole_joined form (length s.whole) (length t.whole) s.of_whole t.of_whole;
      samples_are = t.samples_are ∙ ap (λ l. l ++ samples_in form t.whole) s.samples_are ∙ sym (samples_joined form s.whole t.whole s.of_whole);
      read = subst (λ l. HasRead l before now) same all;
    }

-- ---- how the reading ends

no_piece : (n : ℕ) (piece : List ℕ) → length piece ≡ n → n ≡ 0 → piece ≡ []
no_piece n [] size zero = refl
no_piece n (x ∷ piece) size zero = absurd (omega (arith, size, zero))

-- at the end of the input nothing more was read
ended_on : (form : SampleForm) (n : ℕ) (samples : List Sample) (begun next : List ℕ) (before between now : SourceState) (s : HasReadSamples form samples begun before between) →
    HasReadOn n begun next between now → n ≡ 0 → HasRead (s.whole ++ begun) before now
ended_on form n samples begun next before between now s h zero =
    let all : HasRead ((s.whole ++ begun) ++ h.piece) before now = read_then _ _ before between now s.read h.read in
    subst (λ l. HasRead l before now) (ap (λ l. (s.whole ++ begun) ++ l) (no_piece n h.piece h.count zero) ∙ append-nil (s.whole ++ begun)) all

-- the input ended after a complete sample
whole_on : (factor : ℕ) (form : SampleForm) (n : ℕ) (samples : List Sample) (begun next : List ℕ) (before between now : SourceState) (s : HasReadSamples form samples begun before between) →
    HasReadOn n begun next between now → n ≡ 0 → begun ≡ [] → length samples ≤ factor * most_samples → HasReadAll (most_bytes_at factor form) s.whole before now
whole_on factor form n samples begun next before between now s h zero none few =
    let all = ended_on form n samples begun next before between now s h zero in
    record {
      read = subst (λ l. HasRead l before now) (ap (λ l. s.whole ++ l) none ∙ append-nil s.whole) all;
      ended = h.end zero;
      within = within_limit factor form (length s.whole) (by_form factor form (length s.whole) (length samples) (bytes_count form samples begun before between s) few);
    }
  where
    by_form : (factor : ℕ) (form : SampleForm) (m n : ℕ) → m ≡ width form * n → n ≤ factor * most_samples → m ≤ width form * (factor * most_samples)
    by_form factor Ci16 m n e few = omega (arith, e, few)
    by_form factor Cu8 m n e few = omega (arith, e, few)

pub recorded_on : (factor : ℕ) (form : SampleForm) (n : ℕ) (samples : List Sample) (begun next : List ℕ) (before between now : SourceState) → HasReadSamples form samples begun before between →
    HasReadOn n begun next between now → n ≡ 0 → begun ≡ [] → length samples ≤ factor * most_samples → factor * least_samples ≤ length samples → HasReadRecordingAt factor form samples before now
recorded_on factor form n samples begun next before between now s h zero none few many = record {
  input = s.whole;
  read = whole_on factor form n samples begun next before between now s h zero none few;
  whole_samples = s.of_whole;
  enough = subst (λ m. least_bytes_at factor form ≤ m) (sym (bytes_count form samples begun before between s)) (enough factor form (length samples) many);
  samples = s.samples_are;
}

pub short_on : (factor : ℕ) (form : SampleForm) (n : ℕ) (samples : List Sample) (begun next : List ℕ) (before between now : SourceState) → HasReadSamples form samples begun before between →
    HasReadOn n begun next between now → n ≡ 0 → begun ≡ [] → length samples ≤ factor * most_samples → length samples < factor * least_samples → HasReadTooShortAt factor form before now
short_on factor form n samples begun next before between now s h zero none few short = record {
  input = s.whole;
  read = whole_on factor form n samples begun next before between now s h zero none few;
  whole_samples = s.of_whole;
  too_short = subst (λ m. m < least_bytes_at factor form) (sym (bytes_count form samples begun before between s)) (too_few factor form (length samples) short);
}

-- the input ended within a sample
pub ragged_on : (factor : ℕ) (form : SampleForm) (n : ℕ) (samples : List Sample) (begun next : List ℕ) (before between now : SourceState) → HasReadSamples form samples begun before between →
    HasReadOn n begun next between now → n ≡ 0 → 0 < length begun → length begun < width form →
    width form * length samples + length begun ≤ width form * (factor * most_samples) → HasReadRaggedAt factor form before now
ragged_on factor form n samples begun next before between now s h zero some few within =
    let size : length (s.whole ++ begun) ≡ length s.whole + length begun = length-append s.whole begun in
    record {
      input = s.whole ++ begun;
      read = record {
        read = ended_on form n samples begun next before between now s h zero;
        ended = h.end zero;
        within = within_limit factor form (length (s.whole ++ begun)) (rw (size, bytes_count form samples begun before between s) within);
      };
      ragged = λ e. begun_is_ragged form (length s.whole) (length begun) s.of_whole some few (ap (λ m. m % width form) (sym size) ∙ e);
    }

-- a call failed
pub fault_on : (factor : ℕ) (form : SampleForm) (samples : List Sample) (begun : List ℕ) (before between now : SourceState) → HasReadSamples form samples begun before between →
    now.left ≡ between.left → Rose before.faults now.faults →
    width form * length samples + length begun ≤ width form * (factor * most_samples) → HasReadFault (most_bytes_at factor form) before now
fault_on factor form samples begun before between now s same rose within = record {
  front = s.whole ++ begun;
  failed = record {
    in_order = rw same s.read.in_order;
    within = within_limit factor form (length (s.whole ++ begun)) (rw (length-append s.whole begun, bytes_count form samples begun before between s) within);
    failed = rose;
  };
}

-- more than the limit was read
pub past_on : (factor : ℕ) (form : SampleForm) (samples : List Sample) (begun : List ℕ) (before now : SourceState) → HasReadSamples form samples begun before now →
    width form * length samples + length begun ≡ width form * (factor * most_samples) + 1 → HasReadPast (most_bytes_at factor form) before now
past_on factor form samples begun before now s past = record {
  front = s.whole ++ begun;
  read = s.read;
  past = one_past factor form (length (s.whole ++ begun)) (length-append s.whole begun ∙ ap (λ m. m + length begun) (bytes_count form samples begun before now s) ∙ past);
}

-- one more piece was read, at most one byte past the limit
pub part_on : (factor : ℕ) (form : SampleForm) (n : ℕ) (samples : List Sample) (begun next : List ℕ) (before between now : SourceState) →
    HasReadSamples form samples begun before between → HasReadOn n begun next between now →
    width form * length samples + length begun + n ≤ width form * (factor * most_samples) + 1 → HasReadPart (most_bytes_at factor form) before now
part_on factor form n samples begun next before between now s h within = record {
  front = (s.whole ++ begun) ++ h.piece;
  read = read_then _ _ before between now s.read h.read;
  few = by_form factor form (length ((s.whole ++ begun) ++ h.piece)) (subst (λ m. m ≤ width form * (factor * most_samples) + 1) size within);
}
  where
    size : width form * length samples + length begun + n ≡ length ((s.whole ++ begun) ++ h.piece)
    size = omega (arith, length-append (s.whole ++ begun) h.piece, length-append s.whole begun, bytes_count form samples begun before between s, h.count)

    by_form : (factor : ℕ) (form : SampleForm) (m : ℕ) → m ≤ width form * (factor * most_samples) + 1 → m ≤ most_bytes_at factor form + 1
    by_form factor Ci16 m few = omega (arith, few)
    by_form factor Cu8 m few = omega (arith, few)
