-- Recordings that agree up to a count have the same samples below it.
use Rattle.std.proofs.Common.{◌≡◌, ℕ, ◌<◌, List, get_or, ap, sym, ◌∙◌}
use Rattle.std.proofs.lemmas.List.{get_or-take}
use Rattle.cs_num.specs.declared.Sample.{Sample}
use Rattle.cs_num.specs.Complex.{sample_at, value_of, silence}
use Rattle.sample_file.specs.Recording.{AgreeBefore}

pub sample_agrees : (count i : ℕ) (a b : List Sample) → AgreeBefore count a b → i < count → sample_at a i ≡ sample_at b i
sample_agrees count i a b agree below =
    ap value_of (sym (get_or-take count a i silence below) ∙ ap (λ s. get_or s i silence) agree ∙ get_or-take count b i silence below)
