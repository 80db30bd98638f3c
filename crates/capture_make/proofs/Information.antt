-- The encoding of SystemInformationBlockType1 has 131 bits.
use Rattle.std.proofs.Common.{◌≡◌, ℕ, ◌+◌, ◌-◌, ◌%◌, ◌^◌, ◌<◌, ◌≤◌, Bool, true, false, List, [], ◌∷◌, length, Option, Some, None, refl, ap, sym, ◌∙◌, arith}
use Rattle.std.specs.Prelude.{if◌then◌else◌, nat_le}
use Rattle.std.specs.Option.{option_map}
use mir.Val.{bool_byte}
use Rattle.cs_bits.specs.Numbers.{bits_of}
use Rattle.uper.specs.Grammar.{done, from_to, flag, times}
use Rattle.uper.specs.Texts.{IsText}
use Rattle.uper.specs.Sheet.{append, Puts}
use Rattle.uper.proofs.Putting.{puts_bind, puts_done, puts_none, puts_number, flag_puts, some_puts, none_puts}
use Rattle.sib1.specs.Layout.{digit, plmn_identity_info, plmn_identity_list, csg_identity, q_rx_lev_min_offset, p_max, sib_type, scheduling_info, tdd_config, sib1}
use Rattle.sib1.proofs.Written.{two_puts, plmn_puts, plmns_puts}
use Rattle.sib1.proofs.Blocks.{sib_short, message_puts, schedule_puts, access_puts, selection_puts, sib1_puts}
use Rattle.lte_types.specs.declared.mnc.Mnc.TheVariants.{Two}
use Rattle.lte_types.specs.declared.sib1.Sib1.{Sib1}
use Rattle.capture_make.specs.Recipe.{network, message, information}

-- the bits written so far
abbrev State : Type 0
State = Option (List Bool)

-- the bits so far, followed by a number
abbrev more : ℕ → ℕ → State → State
more width n s = append s (bits_of width n)

number_put : (width least greatest n : ℕ) (s : State) → n < 2 ^ width → least ≤ n → n ≤ greatest → Puts (from_to width least greatest) n s (more width n s)
number_put width least greatest n s fits above below = puts_number width n s (more width n s) fits refl least greatest above below

flag_put : (b : Bool) (s : State) → Puts flag b s (more 1 (bool_byte b) s)
flag_put true s = flag_puts true s _ (λ least greatest above below. number_put 1 least greatest 1 s (omega arith) above below)
flag_put false s = flag_puts false s _ (λ least greatest above below. number_put 1 least greatest 0 s (omega arith) above below)

-- ---- the network

digit_put : (n : ℕ) (s : State) → n ≤ 9 → Puts digit n s (more 4 n s)
digit_put n s small = number_put 4 0 9 n s (omega (arith, small)) (omega arith) small

two_digits : (a b : ℕ) (s : State) → a ≤ 9 → b ≤ 9 → Puts (times 2 digit) (a ∷ b ∷ []) s (more 4 b (more 4 a s))
unfolding times
two_digits a b s p q =
    puts_bind digit _ a (a ∷ b ∷ []) s (more 4 a s) _ (digit_put a s p)
    (puts_bind (times 1 digit) (λ others. done (a ∷ others)) (b ∷ []) (a ∷ b ∷ []) _ _ _
    (puts_bind digit _ b (b ∷ []) _ _ _ (digit_put b (more 4 a s) q)
    (puts_bind (times 0 digit) (λ others. done (b ∷ others)) [] (b ∷ []) _ _ _ (puts_none digit _) (puts_done (b ∷ []) _)))
    (puts_done (a ∷ b ∷ []) _))

three_digits : (a b c : ℕ) (s : State) → a ≤ 9 → b ≤ 9 → c ≤ 9 → Puts (times 3 digit) (a ∷ b ∷ c ∷ []) s (more 4 c (more 4 b (more 4 a s)))
unfolding times
three_digits a b c s p q r =
    puts_bind digit _ a (a ∷ b ∷ c ∷ []) s (more 4 a s) _ (digit_put a s p)
    (puts_bind (times 2 digit) (λ others. done (a ∷ others)) (b ∷ c ∷ []) (a ∷ b ∷ c ∷ []) _ _ _ (two_digits b c (more 4 a s) q r) (puts_done (a ∷ b ∷ c ∷ []) _))

after_network : State → State
after_network s =
    let a = more 1 1 (more 3 0 s) in
    let b = more 4 1 (more 4 0 (more 4 0 a)) in
    more 1 1 (more 4 1 (more 4 0 (more 1 0 b)))

network_put : (s : State) → Puts plmn_identity_list (network ∷ []) s (after_network s)
unfolding after_network
network_put s =
    let first : State = more 3 0 s in
    let a : State = more 1 1 first in
    let b : State = more 4 1 (more 4 0 (more 4 0 a)) in
    let c : State = more 4 1 (more 4 0 (more 1 0 b)) in
    plmns_puts (network ∷ []) network s first (more 1 1 c) (more 1 1 c) (omega arith) (omega arith) (λ least greatest above below. number_put 3 least greatest 0 s (omega arith) above below)
    (plmn_puts network 1 first a b c (more 1 1 c) (omega arith) (λ least greatest above below. number_put 1 least greatest 1 first (omega arith) above below)
    (some_puts (times 3 digit) (Some (0 ∷ 0 ∷ 1 ∷ [])) (0 ∷ 0 ∷ 1 ∷ []) a b refl (three_digits 0 0 1 a (omega arith) (omega arith) (omega arith)))
    (two_puts (Two (0 ∷ 1 ∷ [])) (0 ∷ 1 ∷ []) b (more 1 0 b) c refl refl (flag_put false b) (two_digits 0 1 (more 1 0 b) (omega arith) (omega arith)))
    (flag_put true c))
    (puts_none (plmn_identity_info 0) (more 1 1 c))

-- ---- the schedule

abbrev after_code : ℕ → State → State
after_code code s = more 4 code (more 1 0 s)

code_put : (code : ℕ) (s : State) → code ≤ 15 → Puts sib_type code s (after_code code s)
code_put code s small = sib_short code s (more 1 0 s) (after_code code s) (flag_put false s) (number_put 4 0 15 code (more 1 0 s) (omega (arith, small)) (omega arith) small)

two_codes : (a b : ℕ) (s : State) → a ≤ 15 → b ≤ 15 → Puts (times 2 sib_type) (a ∷ b ∷ []) s (after_code b (after_code a s))
unfolding times
two_codes a b s p q =
    puts_bind sib_type _ a (a ∷ b ∷ []) s (after_code a s) _ (code_put a s p)
    (puts_bind (times 1 sib_type) (λ others. done (a ∷ others)) (b ∷ []) (a ∷ b ∷ []) _ _ _
    (puts_bind sib_type _ b (b ∷ []) _ _ _ (code_put b (after_code a s) q)
    (puts_bind (times 0 sib_type) (λ others. done (b ∷ others)) [] (b ∷ []) _ _ _ (puts_none sib_type _) (puts_done (b ∷ []) _)))
    (puts_done (a ∷ b ∷ []) _))

after_schedule : ℕ → State → State
after_schedule code s =
    let a = more 5 0 (more 3 code (more 5 1 s)) in
    after_code 2 (after_code 0 (more 5 2 (more 3 code a)))

schedule_put : (code : ℕ) (s : State) → code ≤ 6 → Puts (from_to 5 0 31) 1 s (more 5 1 s) × Puts (times 2 scheduling_info) (message code [] ∷ message code (0 ∷ 2 ∷ []) ∷ []) (more 5 1 s) (after_schedule code s)
unfolding times after_schedule
schedule_put code s small =
    let first : State = more 5 1 s in
    let a : State = more 3 code first in
    let b : State = more 5 0 a in
    let c : State = more 3 code b in
    let d : State = more 5 2 c in
    let e : State = after_code 2 (after_code 0 d) in
    let one : Puts scheduling_info (message code []) first b =
    message_puts (message code []) [] first a b b refl (number_put 3 0 6 code first (omega (arith, small)) (omega arith) small) (number_put 5 0 31 0 a (omega arith) (omega arith) (omega arith)) (puts_none sib_type b) in
    let two : Puts scheduling_info (message code (0 ∷ 2 ∷ [])) b e =
    message_puts (message code (0 ∷ 2 ∷ [])) (0 ∷ 2 ∷ []) b c d e refl (number_put 3 0 6 code b (omega (arith, small)) (omega arith) small) (number_put 5 0 31 2 c (omega arith) (omega arith) (omega arith)) (two_codes 0 2 d (omega arith) (omega arith)) in
    let list = message code [] ∷ message code (0 ∷ 2 ∷ []) ∷ [] in (
      number_put 5 0 31 1 s (omega arith) (omega arith) (omega arith),
      puts_bind scheduling_info _ (message code []) list first b e one
          (puts_bind (times 1 scheduling_info) (λ others. done (message code [] ∷ others)) (message code (0 ∷ 2 ∷ []) ∷ []) list b e e
          (puts_bind scheduling_info _ (message code (0 ∷ 2 ∷ [])) (message code (0 ∷ 2 ∷ []) ∷ []) b e e two
          (puts_bind (times 0 scheduling_info) (λ others. done (message code (0 ∷ 2 ∷ []) ∷ others)) [] (message code (0 ∷ 2 ∷ []) ∷ []) e e e (puts_none scheduling_info e) (puts_done (message code (0 ∷ 2 ∷ []) ∷ []) e)))
          (puts_done list e)),
    )

-- ---- the whole block

-- all bits, written to an empty buffer
after_all : ℕ → State
after_all n =
    let a = more 1 0 (more 1 0 (more 1 0 (more 1 1 (more 1 0 (Some []))))) in
    let b = more 28 (n % 2 ^ 28) (more 16 (n % 65536) (after_network (more 1 0 a))) in
    let c = more 6 (n % 49) (more 1 0 (more 1 0 (more 1 0 (more 1 1 b)))) in
    more 5 (n % 32) (more 3 (n % 7) (after_schedule (n % 7) (more 6 (1 + n % 64 - 1) c)))

all_put : (n : ℕ) → Puts sib1 (information n) (Some []) (after_all n)
unfolding after_all
all_put n =
    let s : Sib1 = information n in
    let s1 : State = more 1 0 (Some []) in
    let s2 : State = more 1 1 s1 in
    let s3 : State = more 1 0 s2 in
    let s4 : State = more 1 0 s3 in
    let s5 : State = more 1 0 s4 in
    let t1 : State = more 1 0 s5 in
    let t2 : State = after_network t1 in
    let t3 : State = more 16 (n % 65536) t2 in
    let t4 : State = more 28 (n % 2 ^ 28) t3 in
    let t5 : State = more 1 1 t4 in
    let t6 : State = more 1 0 t5 in
    let s6 : State = more 1 0 t6 in
    let u1 : State = more 1 0 s6 in
    let s7 : State = more 6 (n % 49) u1 in
    let s9 : State = more 6 (1 + n % 64 - 1) s7 in
    let s10 : State = after_schedule (n % 7) s9 in
    let s12 : State = more 3 (n % 7) s10 in
    let schedule = schedule_put (n % 7) s9 (omega arith) in
    sib1_puts s s.scheduling false false (Some []) s1 s2 s3 s4 s5 s6 s7 s7 s9 s10 s10 s12 (more 5 (n % 32) s12) refl refl refl (omega arith)
    (number_put 1 0 0 0 (Some []) (omega arith) (omega arith) (omega arith)) (number_put 1 1 1 1 s1 (omega arith) (omega arith) (omega arith)) (flag_put false s2) (flag_put false s3) (flag_put false s4)
    (access_puts s s.plmns false s5 t1 t2 t3 t4 t5 t6 s6 s6 refl refl (flag_put false s5) (network_put t1)
    (number_put 16 0 65535 (n % 65536) t2 (omega arith) (omega arith) (omega arith)) (number_put 28 0 268435455 (n % 2 ^ 28) t3 (omega arith) (omega arith) (omega arith))
    (flag_put true t4) (flag_put false t5) (flag_put false t6) (none_puts csg_identity None s6 refl))
    (selection_puts s false (n % 49) s6 u1 s7 s7 refl refl (flag_put false s6) (number_put 6 0 48 (n % 49) u1 (omega arith) (omega arith) (omega arith)) (none_puts q_rx_lev_min_offset None s7 refl))
    (none_puts p_max None s7 refl)
    (number_put 6 0 63 (1 + n % 64 - 1) s7 (omega arith) (omega arith) (omega arith))
    (schedule_puts s.scheduling s9 (more 5 1 s9) s10 (omega arith) schedule.0 schedule.1)
    (none_puts tdd_config None s10 refl)
    (number_put 3 0 6 (n % 7) s10 (omega arith) (omega arith) (omega arith)) (number_put 5 0 31 (n % 32) s12 (omega arith) (omega arith) (omega arith))

-- 131 bits are written
bits_put : (n : ℕ) → option_map length (after_all n) ≡ Some 131
unfolding after_all after_network after_schedule
bits_put n = refl

-- a text written to an empty buffer has the buffer's length
text_put : (state : State) (text : List Bool) (n : ℕ) → option_map length state ≡ Some n → state ≡ append (Some []) text → length text ≡ n
text_put state text n size put = by (nat_le (length text) 1000) (sym (ap (option_map length) put) ∙ size)
  where
    by : (fits : Bool) → option_map length (if fits then Some text else None) ≡ Some n → length text ≡ n
    by true e = cc
    by false e = absurd cc

pub record HasText (n : ℕ) : Type 0 where
  pub text : List Bool
  pub is_text : IsText sib1 text (information n)
  pub size : length text ≡ 131

pub has_text : (n : ℕ) → HasText n
has_text n = let p = all_put n in record { text = p.text; is_text = p.is_text; size = text_put (after_all n) p.text 131 (bits_put n) p.put }
