-- Reading in pieces, as the code does: a piece may end within a sample. (own)
use Rattle.std.specs.Prelude.{◌≡◌, ℕ, ◌%◌, ◌<◌, ◌++◌, List, length, take}
use Rattle.cs_num.specs.declared.Sample.{Sample}
use Rattle.cs_outside.specs.Outside.{SourceState}
use Rattle.cs_outside.specs.Streams.{HasRead}
use Rattle.sample_file.specs.declared.form.SampleForm.{SampleForm}
use Rattle.sample_file.specs.Recording.{width, samples_in}

-- the samples that `bytes` contain completely were appended to `before`, which gives `now`; the bytes `begun` of an
-- incomplete sample remain
pub record TakesSamples (form : SampleForm) (bytes : List ℕ) (before now : List Sample) (begun : List ℕ) : Type 0 where
  pub whole : List ℕ
  pub split : bytes ≡ whole ++ begun
  pub of_whole : length whole % width form ≡ 0
  pub samples_are : now ≡ before ++ samples_in form whole
  pub few : length begun < width form

-- the bytes read so far are those of `samples`, followed by the bytes `begun` of an incomplete sample
pub record HasReadSamples (form : SampleForm) (samples : List Sample) (begun : List ℕ) (before now : SourceState) :
    Type 0 where
  pub whole : List ℕ
  pub of_whole : length whole % width form ≡ 0
  pub samples_are : samples ≡ samples_in form whole
  pub read : HasRead (whole ++ begun) before now

-- ---- the first samples are kept, and the rest counted

-- `kept` has the first `most` of `samples`, and `count` is the number of all
pub record AreKept (most : ℕ) (samples kept : List Sample) (count : ℕ) : Type 0 where
  pub kept_are : kept ≡ take most samples
  pub count_is : count ≡ length samples

-- the samples in `bytes` were taken after those in `before`. `kept` has the first `most` of all samples taken, `count`
-- is their number, and the bytes `begun` of an incomplete sample remain.
pub record TakesFront (form : SampleForm) (most : ℕ) (bytes : List ℕ) (before kept : List Sample) (count : ℕ)
    (begun : List ℕ) : Type 0 where
  pub samples : List Sample
  pub takes : TakesSamples form bytes before samples begun
  pub are_kept : AreKept most samples kept count

-- the bytes read so far are `count` samples, followed by the bytes `begun` of an incomplete one; `kept` has the first
-- `most` samples
pub record HasReadFrontOf (form : SampleForm) (most : ℕ) (kept : List Sample) (count : ℕ) (begun : List ℕ)
    (before now : SourceState) :
    Type 0 where
  pub samples : List Sample
  pub read : HasReadSamples form samples begun before now
  pub are_kept : AreKept most samples kept count
