use Rattle.std.proofs.Common.{◌≡◌, ◌∙◌, ℕ, ◌+◌, ◌≤◌, Bool, true, false, cond, List, refl, arith, sym, ap, ap₂}
use mir.Val.{bool_byte}
use Rattle.accumulated_sss.specs.Signs.{matches}
use Rattle.accumulated_sss.proofs.Turns.{matches_none, matches_more}
use Rattle.added_master.specs.Master.{sign_of_sum, sign_of_bit}
use Rattle.added_master.proofs.signs.count_matches.Goals as goal

byte_is : (b : Bool) → bool_byte b ≡ cond b 1 0
byte_is true = refl
byte_is false = refl

byte-le : (b : Bool) → bool_byte b ≤ 1
byte-le true = omega arith
byte-le false = omega arith

pub loop-i-init : goal.loop-i-init
loop-i-init c = record { so_far = sym (matches_none (sign_of_sum c.args.sums.now) (sign_of_bit c.encode-coded.result)); small = omega arith }

pub loop-i-preserved : goal.loop-i-preserved
loop-i-preserved c =
    let one = byte-le c.is_match.result in
    record {
      so_far = ap₂ ◌+◌ c.loop-i.invariant.so_far (byte_is c.is_match.result ∙ ap (λ t. cond t 1 0) c.is_match.ensures)
          ∙ sym (matches_more c.loop-i.i (sign_of_sum c.args.sums.now) (sign_of_bit c.encode-coded.result));
      small = omega (arith, one);
    }

pub returns-clause-value : goal.returns-clause-value
returns-clause-value c =
    let last : c.loop-i.i ≡ 120 = omega arith in
    c.loop-i.invariant.so_far
    ∙ ap₂ (λ (n : ℕ) (coded : List (List Bool)). matches n (sign_of_sum c.args.sums.now) (sign_of_bit coded)) last c.encode-coded.ensures
