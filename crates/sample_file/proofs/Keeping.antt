-- Only the first samples of the input are kept.
use Rattle.std.proofs.Common.{◌≡◌, ℕ, zero, suc, ◌+◌, ◌-◌, ◌*◌, ◌/◌, ◌%◌, ◌≤◌, List, [], ◌∷◌, ◌++◌, length, take, refl, ap, sym, subst, ◌∙◌, arith, min, length-append, length-take-le}
use Rattle.std.specs.List.{copy_within}
use Rattle.std.proofs.Math.Seq.{take-nil, take_all}
use Rattle.cs_num.specs.declared.Sample.{Sample}
use Rattle.lte_types.specs.Numerology.{least_samples, most_samples}
use Rattle.cs_outside.specs.Outside.{SourceState}
use Rattle.sample_file.specs.declared.form.SampleForm.{SampleForm}
use Rattle.sample_file.specs.declared.form.SampleForm.TheVariants.{Ci16, Cu8}
use Rattle.sample_file.specs.Recording.{width, component_of, centred, samples_of, samples_of_8, samples_in, IsRecording}
use Rattle.sample_file.specs.Steps.{AreKept, TakesFront}
use Rattle.sample_file.specs.Reading.{least_bytes_at, most_bytes_at, HasReadRecordingAt, HasReadRecording, HasReadFront}
use Rattle.sample_file.proofs.Samples.{length-of_whole, length-samples_in}
use Rattle.sample_file.proofs.Progress.{end_taken}

-- ---- the samples in the first bytes

four_more : (n : ℕ) → 4 * suc n ≡ suc (suc (suc (suc (4 * n))))
four_more n = omega arith

two_more : (n : ℕ) → 2 * suc n ≡ suc (suc (2 * n))
two_more n = omega arith

-- the bytes of the first n samples hold exactly those samples
pub first_samples : (form : SampleForm) (n : ℕ) (bytes : List ℕ) → samples_in form (take (width form * n) bytes) ≡ take n (samples_in form bytes)
first_samples Ci16 zero bytes = refl
first_samples Ci16 (suc n) [] = ap (λ k. samples_of (take k [])) (four_more n)
first_samples Ci16 (suc n) (a ∷ []) = ap (λ k. samples_of (take k (a ∷ []))) (four_more n)
first_samples Ci16 (suc n) (a ∷ b ∷ []) = ap (λ k. samples_of (take k (a ∷ b ∷ []))) (four_more n)
first_samples Ci16 (suc n) (a ∷ b ∷ c ∷ []) = ap (λ k. samples_of (take k (a ∷ b ∷ c ∷ []))) (four_more n)
first_samples Ci16 (suc n) (a ∷ b ∷ c ∷ d ∷ bytes) =
    ap (λ k. samples_of (take k (a ∷ b ∷ c ∷ d ∷ bytes))) (four_more n)
    ∙ ap (λ (more : List Sample). record { re = component_of a b; im = component_of c d } ∷ more) (first_samples Ci16 n bytes)
first_samples Cu8 zero bytes = refl
first_samples Cu8 (suc n) [] = ap (λ k. samples_of_8 (take k [])) (two_more n)
first_samples Cu8 (suc n) (a ∷ []) = ap (λ k. samples_of_8 (take k (a ∷ []))) (two_more n)
first_samples Cu8 (suc n) (a ∷ b ∷ bytes) =
    ap (λ k. samples_of_8 (take k (a ∷ b ∷ bytes))) (two_more n)
    ∙ ap (λ (more : List Sample). record { re = centred a; im = centred b } ∷ more) (first_samples Cu8 n bytes)

-- ---- the first samples of all

-- the first items of two joined lists: those of the first list, then as many of the second as are missing
take_joined : (most : ℕ) (xs ys : List Sample) → take most (xs ++ ys) ≡ take most xs ++ take (most - length (take most xs)) ys
take_joined zero xs ys = refl
take_joined (suc m) [] ys = let whole : suc m ≡ suc m - 0 = omega arith in ap (λ k. take k ys) whole
take_joined (suc m) (x ∷ xs) ys =
    let rest : m - length (take m xs) ≡ suc m - suc (length (take m xs)) = omega arith in
    ap (λ (more : List Sample). x ∷ more) (take_joined m xs ys ∙ ap (λ k. take m xs ++ take k ys) rest)

pub kept_more : (form : SampleForm) (most whole : ℕ) (bytes : List ℕ) (before kept after : List Sample) → kept ≡ take most before →
    after ≡ kept ++ samples_in form (take (width form * min whole (most - length kept)) bytes) →
    after ≡ take most (before ++ samples_in form (take (width form * whole) bytes))
kept_more form most whole bytes before kept after were are =
    are
    ∙ ap (λ l. kept ++ l) (first_samples form (min whole (most - length kept)) bytes ∙ fewer whole (most - length kept) (samples_in form bytes))
    ∙ ap (λ k. k ++ take (most - length k) (take whole (samples_in form bytes))) were
    ∙ sym (take_joined most before (take whole (samples_in form bytes)))
    ∙ ap (λ l. take most (before ++ l)) (sym (first_samples form whole bytes))
  where
    fewer : (n m : ℕ) (l : List Sample) → take (min n m) l ≡ take m (take n l)
    fewer zero m l = let none : min 0 m ≡ 0 = omega arith in ap (λ k. take k l) none ∙ sym (take-nil m)
    fewer (suc n) zero l = let none : min (suc n) 0 ≡ 0 = omega arith in ap (λ k. take k l) none
    fewer (suc n) (suc m) [] = let some : min (suc n) (suc m) ≡ suc (min n m) = omega arith in ap (λ k. take {A = Sample} k []) some
    fewer (suc n) (suc m) (x ∷ l) =
        let some : min (suc n) (suc m) ≡ suc (min n m) = omega arith in
        ap (λ k. take k (x ∷ l)) some ∙ ap (λ (more : List Sample). x ∷ more) (fewer n m l)

-- ---- samples from a buffer

-- equal numbers of bytes are equal numbers of samples
count_of : (form : SampleForm) (m n : ℕ) → width form * m ≡ width form * n → m ≡ n
count_of Ci16 m n e = omega (arith, e)
count_of Cu8 m n e = omega (arith, e)

not_more : (form : SampleForm) (e w : ℕ) → w ≡ width form * (e / width form) → w ≤ e
not_more Ci16 e w cut = omega (arith, cut)
not_more Cu8 e w cut = omega (arith, cut)

are_whole : (form : SampleForm) (n w : ℕ) → w ≡ width form * n → w % width form ≡ 0
are_whole Ci16 n w cut = omega (arith, cut)
are_whole Cu8 n w cut = omega (arith, cut)

-- the samples in the buffer's first bytes are taken, and the bytes of an incomplete one are moved to the front
pub front_taken_on : (form : SampleForm) (most e w whole : ℕ) (buffer : List ℕ) (before kept after : List Sample) (count : ℕ) → e ≤ length buffer →
    whole ≡ e / width form → w ≡ width form * whole → AreKept most before kept count →
    after ≡ kept ++ samples_in form (take (width form * min whole (most - length kept)) buffer) →
    TakesFront form most (take e buffer) before after (count + whole) (take (e - w) (copy_within buffer w e 0))
front_taken_on form most e w whole buffer before kept after count inside parts cut k are =
    let cut_is : w ≡ width form * (e / width form) = cut ∙ ap (λ n. width form * n) parts in
    let size : length (take w buffer) ≡ w = length-take-le w buffer (omega (arith, not_more form e w cut_is, inside)) in
    let new : length (samples_in form (take w buffer)) ≡ whole =
    count_of form _ _ (length-of_whole form (take w buffer) (ap (λ m. m % width form) size ∙ are_whole form whole w cut) ∙ size ∙ cut) in
    let all : length (before ++ samples_in form (take w buffer)) ≡ length before + whole =
    length-append before (samples_in form (take w buffer)) ∙ ap (λ n. length before + n) new in
    record {
      samples = before ++ samples_in form (take w buffer);
      takes = end_taken form e w buffer before inside cut_is;
      are_kept = record {
        kept_are = kept_more form most whole buffer before kept after k.kept_are are
            ∙ ap (λ n. take most (before ++ samples_in form (take n buffer))) (sym cut);
        count_is = ap (λ n. n + whole) k.count_is ∙ sym all;
      };
    }

-- ---- a prefix of all samples

few_samples : (factor : ℕ) (form : SampleForm) (input : List ℕ) → length input ≤ most_bytes_at factor form →
    length (samples_in form input) ≤ factor * most_samples
few_samples factor Ci16 input within = let all = length-samples_in Ci16 input in omega (arith, within, all.0)
few_samples factor Cu8 input within = let all = length-samples_in Cu8 input in omega (arith, within, all.0)

-- a prefix as long as a recording may be is the recording
pub whole_front : (form : SampleForm) (front : List Sample) (before now : SourceState) → HasReadFront form most_samples front before now → HasReadRecording form front before now
whole_front form front before now f =
    let few = few_samples 1 form f.read.input f.read.read.within in
    let all : front ≡ f.recording = f.front_is ∙ take_all most_samples f.recording (subst (λ (l : List Sample). length l ≤ most_samples) (sym f.read.samples) few) in
    subst (λ (l : List Sample). HasReadRecording form l before now) (sym all) f.read

-- the samples that were read are as many as a recording may have
pub count_is : (factor : ℕ) (form : SampleForm) (recording : List Sample) (before now : SourceState) → HasReadRecordingAt factor form recording before now →
    (factor * least_samples ≤ length recording) × (length recording ≤ factor * most_samples)
count_is factor form recording before now read = (
  subst (λ (l : List Sample). factor * least_samples ≤ length l) (sym read.samples) (enough_samples form read.input read.enough),
  subst (λ (l : List Sample). length l ≤ factor * most_samples) (sym read.samples) (few_samples factor form read.input read.read.within),
)
  where
    enough_samples : (form : SampleForm) (input : List ℕ) → least_bytes_at factor form ≤ length input → factor * least_samples ≤ length (samples_in form input)
    enough_samples Ci16 input enough = let all = length-samples_in Ci16 input in omega (arith, enough, all.1)
    enough_samples Cu8 input enough = let all = length-samples_in Cu8 input in omega (arith, enough, all.1)

-- the samples that were read are a recording
pub recording_is : (form : SampleForm) (recording : List Sample) (before now : SourceState) → HasReadRecording form recording before now → IsRecording recording
recording_is form recording before now read =
    let (least, most) = count_is 1 form recording before now read in record { least = least; most = most }
