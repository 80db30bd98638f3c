use Rattle.std.proofs.Common.{rules, ◌≡◌, ℕ, ◌<◌, ◌++◌, ◌∙◌, ap, ap₂, sym, List, [], ℤ, Bool, get_or, arith, length}
use Rattle.finite.specs.Lists.{joined_below}
use Rattle.finite.proofs.Lists.{joined_below_more, values_below_at, values_below-length}
use Rattle.conv_code.specs.Code.{coded_bits, coded_word}
use Rattle.code_distance.specs.Room.{agreements, word_agreements}
use Rattle.code_distance.proofs.separation.agreements.Goals as goal

coded_at : (word : List Bool) (k : ℕ) → k < length word → get_or (coded_word word) k [] ≡ coded_bits word k
unfolding coded_word
coded_at word k inside = values_below_at (coded_bits word) (length word) k [] inside

long_as : (word : List Bool) (coded : List (List Bool)) → coded ≡ coded_word word → length coded ≡ length word
unfolding coded_word
long_as word coded is = ap (λ (list : List (List Bool)). length list) is ∙ values_below-length (length word) (coded_bits word)

pub loop-k-init : goal.loop-k-init
unfolding joined_below
loop-k-init c = record { so_far = c.new-all.ensures; count = ap length c.new-all.ensures }

pub loop-k-preserved : goal.loop-k-preserved
loop-k-preserved c =
    let f : ℕ → List ℤ = λ k. agreements (get_or c.args.values.now k []) (coded_bits c.args.word.now k) in
    let k = c.loop-k.k in
    let size : length c.encode-coded.result ≡ 40 = search rules in
    let long = long_as c.args.word.now _ c.encode-coded.ensures in
    let coded = coded_at c.args.word.now k (omega (arith, c.loop-k-test.true, size, long)) in
    record {
      so_far = c.add_agreements.ensures.items ∙ ap₂ ◌++◌ c.loop-k.invariant.so_far (ap (agreements (get_or c.args.values.now k [])) (ap (λ (coded : List (List Bool)). get_or coded k []) c.encode-coded.ensures ∙ coded)) ∙ sym (joined_below_more k f);
      count = let n = c.loop-k.invariant.count in let more = c.add_agreements.ensures.count in omega (arith, n, more);
    }

pub returns-clause-items : goal.returns-clause-items
unfolding word_agreements
returns-clause-items c =
    let f : ℕ → List ℤ = λ k. agreements (get_or c.args.values.now k []) (coded_bits c.args.word.now k) in
    let last : c.loop-k.k ≡ length c.args.values.now = omega (arith, c.told-values, c.loop-k-test.false) in
    c.loop-k.invariant.so_far ∙ ap (λ n. joined_below n f) last
