-- Grid values, case by case.
use Rattle.std.proofs.Common.{◌≡◌, ℕ, zero, suc, ◌+◌, ◌*◌, ◌/◌, ◌%◌, ◌<◌, ◌≤◌, ◌⊎◌, inl, inr, Bool, true, false, not, ◌&&◌, ◌||◌, nat_eq, nat_lt, Option, Some, None, List, get_or, ◌-◌, arith, refl, sym, subst, ap, ◌∙◌, eq-eqb, eqb-true}
use Rattle.std.specs.Prelude.{if◌then◌else◌}
use Rattle.std.specs.Option.{unwrap_or}
use Rattle.std.proofs.lemmas.Bool.Decides.{nat_tests}
use Rattle.cs_num.specs.declared.Cpx.{Cpx}
use Rattle.cs_num.specs.Complex.{nothing}
use Rattle.crs.specs.declared.pattern.Pattern.{Pattern}
use Rattle.crs.specs.Reference.{port_0, port_1, pattern_of, pattern_first, pattern_list, pattern_reference, is_pattern_place, first_subcarrier, reference, reference_at, is_reference, is_second_reference, is_upper_reference, upper_first}
use Rattle.crs.specs.Ports.{is_reference_by, is_reference_of_any}
use Rattle.crs.proofs.Values.{no_pair, reference-of_port_0, get_or-pattern_list}
use Rattle.cell_grid.specs.declared.antenna.Port.{Port}
use Rattle.lte_types.specs.declared.carrier.Carrier.{Carrier}
use Rattle.lte_types.specs.declared.carrier.Carrier.TheVariants.{OnePort, TwoPorts, LongPrefix, FourPorts}
use Rattle.cell_plan.specs.declared.cell.CellPlan.{CellPlan}
use Rattle.lte_types.specs.Carrier.{ports_of}
use Rattle.cell_grid.specs.Ports.{port_symbols, port_slot, first_pattern, port_reference, has_control, sent_signal, is_own_reference, is_other_reference}
use Rattle.cell_grid.specs.Grid.{is_primary, is_secondary, has_broadcast, is_indicator, is_control, is_shared, has_system_information, reference_value, primary_value, secondary_value, broadcast_value, system_value, port_channel_value, port_element}
use Rattle.cell_grid.specs.Load.{is_signal_symbol, is_taken, is_loaded, load_point, loaded_element, sent_element}
use Rattle.cell_grid.specs.Rows.{port_reference_if, lower_test, any_lower_test, upper_test, any_upper_test, indicator_if, control_if, shared_if, system_if, channel_if, open_value}

-- ---- reference positions

-- with the normal prefix, ports 0 and 1 have the same values and positions
pub normal_reference : (identity slot symbol k : ℕ) → pattern_reference port_0 identity slot symbol (k / 6) ≡ reference_at identity slot symbol k
unfolding reference_at
normal_reference identity slot symbol k = reference-of_port_0 identity slot symbol (k / 6)

pub is_zeroth : (identity symbol k : ℕ) → is_pattern_place port_0 identity symbol k ≡ is_reference identity symbol k
unfolding is_reference first_subcarrier
is_zeroth identity symbol k = refl

pub is_second : (identity symbol k : ℕ) → is_pattern_place port_1 identity symbol k ≡ is_second_reference identity symbol k
unfolding is_second_reference
is_second identity symbol k = refl

-- ---- tests at a resource element

or-false : (d : Bool) → d ≡ (d || false)
or-false true = refl
or-false false = refl

pub both_false : (a b : Bool) → a ≡ false → b ≡ false → (a || b) ≡ false
both_false a b e f = rw (e, f) refl

or_alike : (a b c d : Bool) → a ≡ c → b ≡ d → (a || b) ≡ (c || d)
or_alike a b c d e f = rw (e, f) refl

-- the code's value at a resource element, given whether the port itself and whether any port has a reference position
-- there
abbrev pub found : Bool → Bool → Cpx → Option Cpx
found own any value = if own then Some value else (if any then Some nothing else None)

chosen : (a b c d : Bool) (x y : Cpx) → a ≡ c → b ≡ d → x ≡ y → found a b x ≡ (if c then Some y else (if not c && d then Some nothing else None))
chosen a b c d x y e f g = rw (e, f, g) (by c)
  where
    by : (c : Bool) → (if c then Some y else (if d then Some nothing else None)) ≡ (if c then Some y else (if not c && d then Some nothing else None))
    by true = refl
    by false = refl

-- ---- ports by number: 0, 1, or any other

data IsNumber : ℕ → Type 0 where
  Zeroth : IsNumber 0
  First : IsNumber 1
  Upper : (number : ℕ) → nat_lt number 2 ≡ false → IsNumber number

number_is : (number : ℕ) → IsNumber number
number_is zero = Zeroth
number_is (suc zero) = First
number_is (suc (suc n)) = Upper (suc (suc n)) (let late : 2 ≤ suc (suc n) = omega arith in grind (arith, nat_tests))

-- ---- resource elements without reference signals

neither_is : (own any : Bool) (value : Cpx) → own ≡ false → any ≡ false → (if own then Some value else (if not own && any then Some nothing else None)) ≡ None
neither_is own any value e f = rw (e, f) refl

pub none_of : (port : Port) (identity slot symbol k : ℕ) → is_own_reference port identity slot symbol k ≡ false → is_reference_of_any port.carrier identity slot symbol k ≡ false →
    port_reference_if port identity slot symbol k ≡ None
none_of port identity slot symbol k e f = neither_is _ _ _ e f

no_place : (pattern : Pattern) (identity symbol k : ℕ) → nat_eq symbol 0 ≡ false → nat_eq symbol pattern.later ≡ false → is_pattern_place pattern identity symbol k ≡ false
no_place pattern identity symbol k e f = rw (e, f) refl

no_upper_reference : (port identity slot symbol k : ℕ) → nat_eq symbol 1 ≡ false → is_upper_reference port identity slot symbol k ≡ false
unfolding is_upper_reference
no_upper_reference port identity slot symbol k e = rw e refl

-- if no port from 0 to 3 has a reference position, neither has any port of the transmission scheme
pub none_of_any : (carrier : Carrier) (identity slot symbol k : ℕ) → ((number : ℕ) → is_reference_by carrier number identity slot symbol k ≡ false) →
    is_reference_of_any carrier identity slot symbol k ≡ false
none_of_any OnePort identity slot symbol k none = both_false _ _ (none 0) refl
none_of_any TwoPorts identity slot symbol k none = both_false _ _ (none 0) (both_false _ _ (none 1) refl)
none_of_any LongPrefix identity slot symbol k none = both_false _ _ (none 0) refl
none_of_any FourPorts identity slot symbol k none = both_false _ _ (none 0) (both_false _ _ (none 1) (both_false _ _ (none 2) (both_false _ _ (none 3) refl)))

-- only symbols 0 and 1 and the pattern's later symbol have reference positions
no_own : (carrier : Carrier) (number identity slot symbol k : ℕ) → nat_eq symbol 0 ≡ false → nat_eq symbol 1 ≡ false → nat_eq symbol (pattern_of carrier 0).later ≡ false →
    is_reference_by carrier number identity slot symbol k ≡ false
no_own carrier number identity slot symbol k e g f =
    either_false (nat_lt number 2) _ _ (no_place (pattern_of carrier number) identity symbol k e f) (no_upper_reference number identity slot symbol k g)
  where
    either_false : (t a b : Bool) → a ≡ false → b ≡ false → (if t then a else b) ≡ false
    either_false true a b e f = e
    either_false false a b e f = f

pub no_port_reference : (port : Port) (identity slot symbol k : ℕ) → nat_eq symbol 0 ≡ false → nat_eq symbol 1 ≡ false → nat_eq symbol (first_pattern port).later ≡ false →
    port_reference_if port identity slot symbol k ≡ None
no_port_reference port identity slot symbol k e g f =
    none_of port identity slot symbol k (no_own port.carrier port.number identity slot symbol k e g f)
    (none_of_any port.carrier identity slot symbol k (λ number. no_own port.carrier number identity slot symbol k e g f))

-- symbol 1 has no reference positions of ports 0 and 1
not_in_first : (carrier : Carrier) (number identity k : ℕ) → is_pattern_place (pattern_of carrier number) identity 1 k ≡ false
not_in_first OnePort number identity k = refl
not_in_first TwoPorts number identity k = refl
not_in_first LongPrefix number identity k = refl
not_in_first FourPorts number identity k = refl

any_in_first : (carrier : Carrier) (identity slot k : ℕ) → is_reference_of_any carrier identity slot 1 k
    ≡ any_upper_test carrier (is_upper_reference 2 identity slot 1 k) (is_upper_reference 3 identity slot 1 k)
any_in_first OnePort identity slot k = refl
any_in_first TwoPorts identity slot k = refl
any_in_first LongPrefix identity slot k = refl
any_in_first FourPorts identity slot k = sym (or_alike _ _ _ _ refl (or-false _))

-- ---- the symbols that ports 0 and 1 use

module _ (pattern : Pattern) (pilots : List (ℕ × Cpx)) (identity slot symbol k : ℕ) (is : pilots ≡ pattern_list pattern identity slot symbol) where
  first_is : (get_or pilots 0 no_pair).0 % 6 ≡ pattern_first pattern identity symbol
  first_is =
      let zeroth : (6 * 0 + pattern_first pattern identity symbol) % 6 ≡ pattern_first pattern identity symbol = omega arith in
      ap (λ (pair : ℕ × Cpx). pair.0 % 6) (ap (λ list. get_or list 0 no_pair) is ∙ get_or-pattern_list pattern identity slot symbol 0 no_pair (omega arith)) ∙ zeroth

  value_is : k < 72 → (get_or pilots (k / 6) no_pair).1 ≡ pattern_reference pattern identity slot symbol (k / 6)
  value_is inside = ap (λ (pair : ℕ × Cpx). pair.1) (ap (λ list. get_or list (k / 6) no_pair) is ∙ get_or-pattern_list pattern identity slot symbol (k / 6) no_pair (omega arith))

-- the two symbols with reference positions of ports 0 and 1
abbrev IsRow : Carrier → ℕ → Type 0
IsRow carrier symbol = (symbol ≡ 0) ⊎ (symbol ≡ (pattern_of carrier 0).later)

has : (symbol later : ℕ) → (symbol ≡ 0) ⊎ (symbol ≡ later) → (nat_eq symbol 0 || nat_eq symbol later) ≡ true
has symbol later (inl e) = rw (eq-eqb symbol 0 e) refl
has symbol later (inr e) = by (nat_eq symbol 0)
  where
    by : (b : Bool) → (b || nat_eq symbol later) ≡ true
    by true = refl
    by false = eq-eqb symbol later e

in_row : (pattern : Pattern) (identity symbol k n : ℕ) → (symbol ≡ 0) ⊎ (symbol ≡ pattern.later) → n ≡ pattern_first pattern identity symbol → nat_eq (k % 6) n ≡ is_pattern_place pattern identity symbol k
in_row pattern identity symbol k n row e = ap (nat_eq (k % 6)) e ∙ sym (ap (λ b. b && nat_eq (k % 6) (pattern_first pattern identity symbol)) (has symbol pattern.later row))

-- port 1 begins three subcarriers higher
turned : (identity : ℕ) (b : Bool) → (((if b then 0 else 3) + identity) % 6 + 3) % 6 ≡ ((if b then 3 else 0) + identity) % 6
turned identity true = omega arith
turned identity false = omega arith

single : (carrier : Carrier) (symbol : ℕ) → IsRow carrier symbol → nat_eq symbol 1 ≡ false
single carrier symbol (inl e) = rw e refl
single OnePort symbol (inr e) = rw e refl
single TwoPorts symbol (inr e) = rw e refl
single LongPrefix symbol (inr e) = rw e refl
single FourPorts symbol (inr e) = rw e refl

-- whether the subcarrier is one of the twelve that start at `n`
abbrev is_zero : ℕ → ℕ → Bool
is_zero n k = nat_eq (k % 6) n

abbrev is_one : ℕ → ℕ → Bool
is_one n k = nat_eq (k % 6) ((n + 3) % 6)

module _ (carrier : Carrier) (identity slot symbol k n : ℕ) (row : IsRow carrier symbol) (e : n ≡ pattern_first (pattern_of carrier 0) identity symbol) where
  zero_is : is_zero n k ≡ is_pattern_place (pattern_of carrier 0) identity symbol k
  zero_is = in_row (pattern_of carrier 0) identity symbol k n row e

  one_is : is_one n k ≡ is_pattern_place (pattern_of carrier 1) identity symbol k
  one_is = in_row (pattern_of carrier 1) identity symbol k ((n + 3) % 6) row (ap (λ (m : ℕ). (m + 3) % 6) e ∙ turned identity (nat_eq symbol 0))

  no_upper : (number : ℕ) → is_upper_reference number identity slot symbol k ≡ false
  no_upper number = no_upper_reference number identity slot symbol k (single carrier symbol row)

  own_by : (number : ℕ) → IsNumber number → lower_test number (is_zero n k) (is_one n k) ≡ is_reference_by carrier number identity slot symbol k
  own_by _ Zeroth = zero_is
  own_by _ First = one_is
  own_by _ (Upper number e) = rw e (sym (no_upper number))

any_by : (carrier : Carrier) (identity slot symbol k n : ℕ) → IsRow carrier symbol → n ≡ pattern_first (pattern_of carrier 0) identity symbol →
    any_lower_test carrier (is_zero n k) (is_one n k) ≡ is_reference_of_any carrier identity slot symbol k
any_by OnePort identity slot symbol k n row e = or_alike _ _ _ _ (zero_is OnePort identity slot symbol k n row e) refl
any_by TwoPorts identity slot symbol k n row e = or_alike _ _ _ _ (zero_is TwoPorts identity slot symbol k n row e) (one_is TwoPorts identity slot symbol k n row e ∙ or-false _)
any_by LongPrefix identity slot symbol k n row e = or_alike _ _ _ _ (zero_is LongPrefix identity slot symbol k n row e) refl
any_by FourPorts identity slot symbol k n row e =
    or_alike _ _ _ _ (zero_is FourPorts identity slot symbol k n row e)
    (one_is FourPorts identity slot symbol k n row e ∙ or-false _
    ∙ or_alike _ _ _ _ refl (sym (both_false _ _ (no_upper FourPorts identity slot symbol k n row e 2) (both_false _ _ (no_upper FourPorts identity slot symbol k n row e 3) refl))))

pub pilot_is : (port : Port) (pilots : List (ℕ × Cpx)) (identity slot symbol k : ℕ) → (symbol ≡ 0) ⊎ (symbol ≡ (first_pattern port).later)
    → pilots ≡ pattern_list (first_pattern port) identity slot symbol → k < 72 →
    (let n = (get_or pilots 0 no_pair).0 % 6 in
    let value = (get_or pilots (k / 6) no_pair).1 in
    found (lower_test port.number (is_zero n k) (is_one n k)) (any_lower_test port.carrier (is_zero n k) (is_one n k)) value ≡ port_reference_if port identity slot symbol k)
pilot_is port pilots identity slot symbol k row is inside =
    let first = first_is (first_pattern port) pilots identity slot symbol k is in
    chosen _ _ _ _ _ _ (own_by port.carrier identity slot symbol k _ row first port.number (number_is port.number)) (any_by port.carrier identity slot symbol k _ row first)
    (value_is (first_pattern port) pilots identity slot symbol k is inside)

-- ---- the symbol that ports 2 and 3 use

-- even ports use port 2's positions, odd ones are three subcarriers higher
even_row : (port identity slot k n : ℕ) → n ≡ upper_first 2 identity slot → port % 2 ≡ 0 → is_zero n k ≡ is_upper_reference port identity slot 1 k
unfolding is_upper_reference
even_row port identity slot k n e even = let same : n ≡ upper_first port identity slot = omega (arith, e, even) in ap (nat_eq (k % 6)) same

odd_row : (port identity slot k n : ℕ) → n ≡ upper_first 2 identity slot → port % 2 ≡ 1 → is_one n k ≡ is_upper_reference port identity slot 1 k
unfolding is_upper_reference
odd_row port identity slot k n e odd = let same : (n + 3) % 6 ≡ upper_first port identity slot = omega (arith, e, odd) in ap (nat_eq (k % 6)) same

upper_row : (port identity slot k n : ℕ) → n ≡ upper_first 2 identity slot →
    (if nat_eq (port % 2) 0 then is_zero n k else is_one n k) ≡ is_upper_reference port identity slot 1 k
upper_row port identity slot k n e = by (nat_eq (port % 2) 0) refl
  where
    by : (b : Bool) → nat_eq (port % 2) 0 ≡ b → (if b then is_zero n k else is_one n k) ≡ is_upper_reference port identity slot 1 k
    by true even = even_row port identity slot k n e (eqb-true (port % 2) 0 even)
    by false odd = odd_row port identity slot k n e (let other : port % 2 ≡ 1 = grind (arith, nat_tests) in other)

alike : (t a b c d : Bool) → a ≡ c → b ≡ d → (if t then a else b) ≡ (if t then c else d)
alike true a b c d e f = e
alike false a b c d e f = f

any_alike : (t a b c d : Bool) → a ≡ c → b ≡ d → (t && (a || b)) ≡ (t && (c || d))
any_alike t a b c d e f = rw (e, f) refl

pub upper_is : (port : Port) (n : ℕ) (pilots : List (ℕ × Cpx)) (identity slot k : ℕ) → n ≡ upper_first 2 identity slot → pilots ≡ pattern_list (first_pattern port) identity slot 1 → k < 72 →
    (let value = (get_or pilots (k / 6) no_pair).1 in
    found (upper_test port.number (is_zero n k) (is_one n k)) (any_upper_test port.carrier (is_zero n k) (is_one n k)) value ≡ port_reference_if port identity slot 1 k)
upper_is port n pilots identity slot k first is inside =
    chosen _ _ _ _ _ _ (alike (nat_lt port.number 2) _ _ _ _ (sym (not_in_first port.carrier port.number identity k)) (upper_row port.number identity slot k n first))
    (any_alike (nat_lt 2 (ports_of port.carrier)) _ _ _ _ (even_row 2 identity slot k n first refl) (odd_row 3 identity slot k n first refl) ∙ sym (any_in_first port.carrier identity slot k))
    (value_is (first_pattern port) pilots identity slot 1 k is inside)

-- ---- resource elements with four ports and the normal prefix

-- where no port from 0 to 3 has a reference signal, no port transmits one
module _ (port : Port) (identity slot symbol k : ℕ) (seven : port_symbols port ≡ 7) (zeroth : is_reference identity symbol k ≡ false) (second : is_second_reference identity symbol k ≡ false)
    (upper : (number : ℕ) → is_upper_reference number identity slot symbol k ≡ false) where
  free_of : (number : ℕ) → IsNumber number → is_reference_by port.carrier number identity slot symbol k ≡ false
  free_of _ Zeroth = subst (λ (n : ℕ). ((nat_eq symbol 0 || nat_eq symbol (n - 3)) && nat_eq (k % 6) (pattern_first port_0 identity symbol)) ≡ false) (sym seven) (is_zeroth identity symbol k ∙ zeroth)
  free_of _ First = subst (λ (n : ℕ). ((nat_eq symbol 0 || nat_eq symbol (n - 3)) && nat_eq (k % 6) (pattern_first port_1 identity symbol)) ≡ false) (sym seven) (is_second identity symbol k ∙ second)
  free_of _ (Upper number e) = rw e (upper number)

  pub none_of_four : port_reference_if port identity slot symbol k ≡ None
  none_of_four =
      none_of port identity slot symbol k (free_of port.number (number_is port.number)) (none_of_any port.carrier identity slot symbol k (λ number. free_of number (number_is number)))

-- a port transmits its reference signal at its own positions
pub own_sent : (port : Port) (identity slot symbol k : ℕ) → is_own_reference port identity slot symbol k ≡ true → port_reference_if port identity slot symbol k ≡ Some (port_reference port identity slot symbol k)
own_sent port identity slot symbol k e = by _ _ _ e
  where
    by : (own : Bool) (x : Cpx) (o : Option Cpx) → own ≡ true → (if own then Some x else o) ≡ Some x
    by true x o e = refl
    by false x o e = absurd cc

-- ---- the cases at a resource element

module _ (port : Port) (plan : CellPlan) (sfn subframe symbol k : ℕ) where
  abbrev here_if : Bool → Bool → Option Cpx
  here_if own other = if own then Some (reference_value port plan subframe symbol k) else (if other then Some nothing else None)

  abbrev rest : Cpx
  rest =
      if is_primary port subframe symbol k then sent_signal port (primary_value plan k)
      else (if is_secondary port subframe symbol k then sent_signal port (secondary_value plan subframe k)
      else port_channel_value port plan sfn subframe symbol k)

  abbrev by_references : Bool → Bool → Cpx
  by_references own other = if own then reference_value port plan subframe symbol k else (if other then nothing else rest)

  there : (own other : Bool) (value : Cpx) → here_if own other ≡ Some value → value ≡ by_references own other
  there true other value e = cc
  there false true value e = cc
  there false false value e = absurd cc

  elsewhere : (own other : Bool) → here_if own other ≡ None → by_references own other ≡ rest
  elsewhere true other e = absurd cc
  elsewhere false true e = absurd cc
  elsewhere false false e = refl

  pub element_of_reference : (value : Cpx) → port_reference_if port plan.identity (port_slot port subframe symbol) (symbol % port_symbols port) k ≡ Some value → value ≡ port_element port plan sfn subframe symbol k
  unfolding port_element
  element_of_reference value e = there (is_own_reference port plan.identity (port_slot port subframe symbol) (symbol % port_symbols port) k) (is_other_reference port plan.identity (port_slot port subframe symbol) (symbol % port_symbols port) k) value e

  pub element_elsewhere : port_reference_if port plan.identity (port_slot port subframe symbol) (symbol % port_symbols port) k ≡ None → port_element port plan sfn subframe symbol k ≡ rest
  unfolding port_element
  element_elsewhere e = elsewhere (is_own_reference port plan.identity (port_slot port subframe symbol) (symbol % port_symbols port) k) (is_other_reference port plan.identity (port_slot port subframe symbol) (symbol % port_symbols port) k) e

-- ---- resource elements without a reference signal

module _ (port : Port) (plan : CellPlan) (sfn subframe symbol k : ℕ) (no : port_reference_if port plan.identity (port_slot port subframe symbol) (symbol % port_symbols port) k ≡ None) where
  pub element_of_primary : is_primary port subframe symbol k ≡ true → port_element port plan sfn subframe symbol k ≡ sent_signal port (primary_value plan k)
  element_of_primary e = element_elsewhere port plan sfn subframe symbol k no ∙ rw e refl

  pub element_of_secondary : is_primary port subframe symbol k ≡ false → is_secondary port subframe symbol k ≡ true → port_element port plan sfn subframe symbol k ≡ sent_signal port (secondary_value plan subframe k)
  element_of_secondary e f = element_elsewhere port plan sfn subframe symbol k no ∙ rw (e, f) refl

  pub element_of_channel : is_primary port subframe symbol k ≡ false → is_secondary port subframe symbol k ≡ false → port_element port plan sfn subframe symbol k ≡ port_channel_value port plan sfn subframe symbol k
  element_of_channel e f = element_elsewhere port plan sfn subframe symbol k no ∙ rw (e, f) refl

-- ---- chained options

abbrev pub first_of : Option Cpx → Option Cpx → Option Cpx
first_of (Some value) other = Some value
first_of None other = other

pub found_first : (here : Bool) (x : Cpx) (o : Option Cpx) → (if here then Some x else o) ≡ first_of (if here then Some x else None) o
found_first true x o = refl
found_first false x o = refl

-- ---- the channels

if_there : (here : Bool) (x z : Cpx) → (if here then x else z) ≡ unwrap_or (if here then Some x else None) z
if_there true x z = refl
if_there false x z = refl

-- a nested `if` equals `unwrap_or` on a chain of options
if_first : (here : Bool) (x y z : Cpx) (o : Option Cpx) → y ≡ unwrap_or o z → (if here then x else y) ≡ unwrap_or (if here then Some x else o) z
if_first true x y z o e = refl
if_first false x y z o e = e

module _ (port : Port) (plan : CellPlan) (sfn subframe symbol k : ℕ) where
  system_is : system_value port plan sfn subframe symbol k ≡ unwrap_or (system_if port plan sfn subframe symbol k) nothing
  system_is =
      if_first (is_indicator plan symbol k) _ _ nothing _ (if_first (is_control plan sfn subframe symbol k) _ _ nothing _ (if_there (is_shared port plan sfn subframe symbol k) _ nothing))

  pick_system : (there : Bool) → (if there then system_value port plan sfn subframe symbol k else nothing) ≡ unwrap_or (if there then system_if port plan sfn subframe symbol k else None) nothing
  pick_system true = system_is
  pick_system false = refl

  pub channel_is : port_channel_value port plan sfn subframe symbol k ≡ unwrap_or (channel_if port plan sfn subframe symbol k) nothing
  unfolding port_channel_value
  channel_is = if_first (has_broadcast port plan.identity subframe symbol k) _ _ nothing _ (pick_system (has_control port))

  -- PBCH has priority over the other channels
  pub channel_of_broadcast : has_broadcast port plan.identity subframe symbol k ≡ true → port_channel_value port plan sfn subframe symbol k ≡ broadcast_value port plan sfn symbol k
  unfolding port_channel_value
  channel_of_broadcast e = rw e refl

-- the three other channels, looked up one by one
pub system_found : (port : Port) (plan : CellPlan) (sfn subframe symbol k : ℕ) → system_if port plan sfn subframe symbol k
    ≡ first_of (indicator_if port plan subframe symbol k) (first_of (control_if port plan sfn subframe symbol k) (shared_if port plan sfn subframe symbol k))
system_found port plan sfn subframe symbol k =
    found_first (is_indicator plan symbol k) _ _ ∙ ap (first_of (indicator_if port plan subframe symbol k)) (found_first (is_control plan sfn subframe symbol k) _ _)

-- ---- load

-- the tests for an open resource element, one by one
taken_beside : (signal own other broadcast control information indicator grant shared : Bool) → own ≡ false → other ≡ false →
    (not (signal || ((own || other) || (broadcast || (control && ((information && indicator) || (grant || shared)))))) && not (control && indicator))
    ≡ (not signal && (not broadcast && not (control && (indicator || (grant || shared)))))
taken_beside true own other broadcast control information indicator grant shared e f = refl
taken_beside false own other broadcast control information indicator grant shared e f = rw (e, f) (left broadcast control information indicator grant shared)
  where
    left : (broadcast control information indicator grant shared : Bool) →
        (not (broadcast || (control && ((information && indicator) || (grant || shared)))) && not (control && indicator)) ≡ (not broadcast && not (control && (indicator || (grant || shared))))
    left true control information indicator grant shared = refl
    left false false information indicator grant shared = refl
    left false true true true grant shared = refl
    left false true true false true shared = refl
    left false true true false false true = refl
    left false true true false false false = refl
    left false true false true true shared = refl
    left false true false true false true = refl
    left false true false true false false = refl
    left false true false false true shared = refl
    left false true false false false true = refl
    left false true false false false false = refl

-- a resource element that belongs to a channel is not open
channel_open : (broadcast control indicator grant shared : Bool) (a b c d : Cpx) (o : Option Cpx) →
    o ≡ (if broadcast then Some a else (if control then (if indicator then Some b else (if grant then Some c else (if shared then Some d else None))) else None)) →
    (signal : Bool) (x : Cpx) (free : Bool) → free ≡ (not signal && (not broadcast && not (control && (indicator || (grant || shared))))) →
    (if free then x else unwrap_or o nothing) ≡ unwrap_or o (if signal then nothing else x)
channel_open true control indicator grant shared a b c d o e true x free f = rw (f, e) refl
channel_open true control indicator grant shared a b c d o e false x free f = rw (f, e) refl
channel_open false false indicator grant shared a b c d o e true x free f = rw (f, e) refl
channel_open false false indicator grant shared a b c d o e false x free f = rw (f, e) refl
channel_open false true true grant shared a b c d o e true x free f = rw (f, e) refl
channel_open false true true grant shared a b c d o e false x free f = rw (f, e) refl
channel_open false true false true shared a b c d o e true x free f = rw (f, e) refl
channel_open false true false true shared a b c d o e false x free f = rw (f, e) refl
channel_open false true false false true a b c d o e true x free f = rw (f, e) refl
channel_open false true false false true a b c d o e false x free f = rw (f, e) refl
channel_open false true false false false a b c d o e true x free f = rw (f, e) refl
channel_open false true false false false a b c d o e false x free f = rw (f, e) refl

-- neither the port's own reference signal nor another port's
neither : (own other : Bool) (x : Cpx) → (if own then Some x else (if other then Some nothing else None)) ≡ None → (own ≡ false) × (other ≡ false)
neither true other x e = absurd cc
neither false true x e = absurd cc
neither false false x e = (refl, refl)

one_of_both : (own other : Bool) (x value : Cpx) → (if own then Some x else (if other then Some nothing else None)) ≡ Some value → (own || other) ≡ true
one_of_both true other x value e = refl
one_of_both false true x value e = refl
one_of_both false false x value e = absurd cc

taken_reference : (signal reference channel : Bool) → reference ≡ true → (signal || (reference || channel)) ≡ true
taken_reference true reference channel e = refl
taken_reference false reference channel e = rw e refl

taken_signal : (signal rest : Bool) → signal ≡ true → (signal || rest) ≡ true
taken_signal signal rest e = rw e refl

last_symbol : (a b c m : Bool) → ((a && b) && m) ≡ true → (a && (c || b)) ≡ true
last_symbol true true true m e = refl
last_symbol true true false m e = refl
last_symbol true false c m e = absurd cc
last_symbol false b c m e = absurd cc

symbol_before : (a b c m : Bool) → ((a && b) && m) ≡ true → (a && (b || c)) ≡ true
symbol_before true true c m e = refl
symbol_before true false c m e = absurd cc
symbol_before false b c m e = absurd cc

module _ (port : Port) (plan : CellPlan) (sfn subframe symbol k : ℕ) where
  -- at an occupied resource element the plan's value is transmitted
  pub sent_of_taken : (load : Option ℕ) → is_taken port plan sfn subframe symbol k ≡ true → sent_element load port plan sfn subframe symbol k ≡ port_element port plan sfn subframe symbol k
  unfolding loaded_element is_loaded
  sent_of_taken None e = refl
  sent_of_taken (Some load) e = rw e refl

  pub sent_of_reference : (load : Option ℕ) (value : Cpx) → port_reference_if port plan.identity (port_slot port subframe symbol) (symbol % port_symbols port) k ≡ Some value →
      value ≡ sent_element load port plan sfn subframe symbol k
  unfolding is_taken
  sent_of_reference load value e =
      element_of_reference port plan sfn subframe symbol k value e
      ∙ sym (sent_of_taken load (taken_reference _ _ _ (one_of_both (is_own_reference port plan.identity (port_slot port subframe symbol) (symbol % port_symbols port) k) (is_other_reference port plan.identity (port_slot port subframe symbol) (symbol % port_symbols port) k) _ value e)))

  -- a channel's value, or the value at an open resource element
  beside : (load : Option ℕ) → is_own_reference port plan.identity (port_slot port subframe symbol) (symbol % port_symbols port) k ≡ false → is_other_reference port plan.identity (port_slot port subframe symbol) (symbol % port_symbols port) k ≡ false
      → port_element port plan sfn subframe symbol k ≡ port_channel_value port plan sfn subframe symbol k
      → sent_element load port plan sfn subframe symbol k ≡ unwrap_or (channel_if port plan sfn subframe symbol k) (open_value load port sfn subframe symbol k)
  unfolding loaded_element is_loaded is_taken
  beside None first second e = e ∙ channel_is port plan sfn subframe symbol k
  beside (Some load) first second e =
      ap (λ z. if is_loaded port plan sfn subframe symbol k then load_point load port sfn subframe symbol k else z) (e ∙ channel_is port plan sfn subframe symbol k)
      ∙ channel_open (has_broadcast port plan.identity subframe symbol k) (has_control port) (is_indicator plan symbol k) (is_control plan sfn subframe symbol k) (is_shared port plan sfn subframe symbol k)
      _ _ _ _ (channel_if port plan sfn subframe symbol k) refl (is_signal_symbol port subframe symbol) (load_point load port sfn subframe symbol k) (is_loaded port plan sfn subframe symbol k)
      (taken_beside (is_signal_symbol port subframe symbol) _ _ (has_broadcast port plan.identity subframe symbol k) (has_control port) (has_system_information sfn subframe) (is_indicator plan symbol k)
      (is_control plan sfn subframe symbol k) (is_shared port plan sfn subframe symbol k) first second)

  module _ (load : Option ℕ) (no : port_reference_if port plan.identity (port_slot port subframe symbol) (symbol % port_symbols port) k ≡ None) where
    pub sent_of_primary : is_primary port subframe symbol k ≡ true → sent_element load port plan sfn subframe symbol k ≡ sent_signal port (primary_value plan k)
    unfolding is_taken
    sent_of_primary e = sent_of_taken load (taken_signal _ _ (last_symbol (nat_eq subframe 0 || nat_eq subframe 5) _ _ _ e)) ∙ element_of_primary port plan sfn subframe symbol k no e

    pub sent_of_secondary : is_primary port subframe symbol k ≡ false → is_secondary port subframe symbol k ≡ true →
        sent_element load port plan sfn subframe symbol k ≡ sent_signal port (secondary_value plan subframe k)
    unfolding is_taken
    sent_of_secondary e f = sent_of_taken load (taken_signal _ _ (symbol_before (nat_eq subframe 0 || nat_eq subframe 5) _ _ _ f)) ∙ element_of_secondary port plan sfn subframe symbol k no e f

    pub sent_beside : is_primary port subframe symbol k ≡ false → is_secondary port subframe symbol k ≡ false →
        sent_element load port plan sfn subframe symbol k ≡ unwrap_or (channel_if port plan sfn subframe symbol k) (open_value load port sfn subframe symbol k)
    sent_beside e f =
        let none = neither (is_own_reference port plan.identity (port_slot port subframe symbol) (symbol % port_symbols port) k) (is_other_reference port plan.identity (port_slot port subframe symbol) (symbol % port_symbols port) k) _ no in
        beside load none.0 none.1 (element_of_channel port plan sfn subframe symbol k no e f)
