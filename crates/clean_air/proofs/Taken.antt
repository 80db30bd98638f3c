-- In each resource element that a plan uses it sends a QPSK symbol, except in the synchronisation signals' symbols and
-- where it is silent for other ports.
use Rattle.std.proofs.Common.{◌≡◌, ℕ, ◌+◌, ◌-◌, ◌/◌, ◌%◌, Bool, true, false, ◌&&◌, ◌||◌, nat_eq, nat_lt, not, arith, refl, ◌∙◌, neg_ℤ, nat_abs}
use Rattle.std.specs.Prelude.{if◌then◌else◌}
use Rattle.std.proofs.lemmas.Int.{ints}
use Rattle.cs_num.specs.declared.Cpx.{Cpx}
use Rattle.cs_num.specs.Complex.{nothing, negated, conjugate, square}
use Rattle.norms.proofs.Squares.{square-conjugate}
use Rattle.sync_seq.specs.Middle.{is_middle}
use Rattle.crs.specs.Qpsk.{IsPoint}
use Rattle.crs.specs.Ports.{is_reference_of_any}
use Rattle.cell_grid.specs.declared.antenna.Port.{Port}
use Rattle.lte_types.specs.declared.carrier.Carrier.{Carrier}
use Rattle.lte_types.specs.declared.carrier.Carrier.TheVariants.{OnePort, TwoPorts, LongPrefix, FourPorts}
use Rattle.lte_types.specs.Carrier.{has_control_by}
use Rattle.cell_grid.specs.Ports.{port_symbols, port_slot, has_control, port_by, crossed_point, paired_point, sent_point, is_own_reference, port_reference}
use Rattle.cell_grid.specs.Block.{port_point}
use Rattle.cell_grid.specs.Control.{indicator_point, control_point}
use Rattle.cell_grid.specs.Shared.{shared_point}
use Rattle.cell_grid.specs.Grid.{has_system_information, has_broadcast, is_indicator, is_control, is_shared, port_channel_value, port_element}
use Rattle.cell_grid.proofs.Bounds.{pick, reference_full, broadcast_full, indicator_full, control_full, shared_full}
use Rattle.cell_grid.specs.Load.{is_any_reference, has_channel, is_taken}
use Rattle.clean_air.specs.Load.{is_of_others_by, is_of_others, TakenPlacesAreSent}
use Rattle.budget.proofs.Pilots.{full-size}
use Rattle.clean_air.proofs.Carrying.{no_signal, left_false}

square-negated : (z : Cpx) → square (negated z) ≡ square z
square-negated z =
    let re : nat_abs (neg_ℤ z.re) ≡ nat_abs z.re = omega (arith, ints) in
    let im : nat_abs (neg_ℤ z.im) ≡ nat_abs z.im = omega (arith, ints) in
    rw (re, im) refl

crossed-size : (f : ℕ → Cpx) → ((i : ℕ) → IsPoint (f i)) → (i : ℕ) → square (crossed_point f i) ≡ 16200
crossed-size f full i =
    pick (λ z. square z ≡ 16200) (nat_eq (i % 2) 0) _ _
    (square-negated (conjugate (f (i + 1))) ∙ square-conjugate (f (i + 1)) ∙ full-size (f (i + 1)) (full (i + 1)))
    (square-conjugate (f (i - 1)) ∙ full-size (f (i - 1)) (full (i - 1)))

-- elements that are sent in turn have a QPSK symbol's magnitude in the port's own pairs
in-turn-size : (t : Bool) (z : Cpx) → square z ≡ 16200 → not t ≡ false → square (if t then z else nothing) ≡ 16200
in-turn-size true z size own = size
in-turn-size false z size own = absurd cc

paired-size : (half number : ℕ) (f : ℕ → Cpx) → ((i : ℕ) → IsPoint (f i)) → (i : ℕ) → square (paired_point half number f i) ≡ 16200
paired-size half number f full i = pick (λ z. square z ≡ 16200) (nat_lt number half) _ _ (full-size (f i) (full i)) (crossed-size f full i)

-- the elements that a port sends have a QPSK symbol's magnitude, except in other ports' pairs
size-by : (carrier : Carrier) (number : ℕ) (f : ℕ → Cpx) → ((i : ℕ) → IsPoint (f i)) → (i : ℕ) → is_of_others_by carrier number i ≡ false → square (sent_point (port_by carrier number) f i) ≡ 16200
size-by OnePort number f full i own = full-size (f i) (full i)
size-by TwoPorts number f full i own = paired-size 1 number f full i
size-by LongPrefix number f full i own = full-size (f i) (full i)
size-by FourPorts number f full i own = in-turn-size (nat_eq (i / 2 % 2) (number % 2)) _ (paired-size 2 number f full i) own

sent-size : (port : Port) (f : ℕ → Cpx) → ((i : ℕ) → IsPoint (f i)) → (i : ℕ) → is_of_others port i ≡ false → square (sent_point port f i) ≡ 16200
sent-size port f full i own = size-by port.carrier port.number f full i own

-- a port that sends a control region sends all pairs
none_by : (carrier : Carrier) (number : ℕ) → has_control_by carrier ≡ true → (i : ℕ) → is_of_others_by carrier number i ≡ false
none_by OnePort number has i = refl
none_by TwoPorts number has i = refl
none_by LongPrefix number has i = refl
none_by FourPorts number has i = absurd cc

none_of_others : (port : Port) → has_control port ≡ true → (i : ℕ) → is_of_others port i ≡ false
none_of_others port has i = none_by port.carrier port.number has i

-- the port's reference signal has a QPSK symbol's magnitude
reference-size : (port : Port) (identity slot symbol k : ℕ) → square (port_reference port identity slot symbol k) ≡ 16200
reference-size port identity slot symbol k = full-size _ (reference_full port identity slot symbol k)

-- the first channel that has the resource element: broadcast or, where they are sent, indicator, control or shared
first_there : (b n i h c s : Bool) (x y z w : Cpx) → (b || (n && ((h && i) || (c || s)))) ≡ true → (b ≡ true → square x ≡ 16200) → (n ≡ true → square y ≡ 16200) → (n ≡ true → square z ≡ 16200) →
    (n ≡ true → square w ≡ 16200) → square (if b then x else (if n then (if i then y else (if c then z else (if s then w else nothing))) else nothing)) ≡ 16200
first_there true n i h c s x y z w e p q r t = p refl
first_there false false i h c s x y z w e p q r t = absurd cc
first_there false true true h c s x y z w e p q r t = q refl
first_there false true false h true s x y z w e p q r t = r refl
first_there false true false h false true x y z w e p q r t = t refl
first_there false true false true false false x y z w e p q r t = absurd cc
first_there false true false false false false x y z w e p q r t = absurd cc

pub taken_places_are_sent : TakenPlacesAreSent
unfolding is_taken port_element port_channel_value
taken_places_are_sent port plan sfn subframe symbol k taken outside own pair = settle (is_own_reference port plan.identity (port_slot port subframe symbol) (symbol % port_symbols port) k) refl
  where
    there : (is_any_reference port plan subframe symbol k || has_channel port plan sfn subframe symbol k) ≡ true
    there = rw outside at taken

    settle : (b : Bool) → is_own_reference port plan.identity (port_slot port subframe symbol) (symbol % port_symbols port) k ≡ b → square (port_element port plan sfn subframe symbol k) ≡ 16200
    settle true e = rw e (reference-size port plan.identity (port_slot port subframe symbol) (symbol % port_symbols port) k)
    settle false e =
        let signal = no_signal (nat_eq subframe 0 || nat_eq subframe 5) (nat_eq symbol (port_symbols port - 2)) (nat_eq symbol (port_symbols port - 1)) (is_middle k) outside in
        let none_left = left_false _ (is_reference_of_any port.carrier plan.identity (port_slot port subframe symbol) (symbol % port_symbols port) k) e own in
        rw (e, none_left, signal.0, signal.1) (first_there (has_broadcast port plan.identity subframe symbol k) (has_control port) (is_indicator plan symbol k) (has_system_information sfn subframe)
        (is_control plan sfn subframe symbol k) (is_shared port plan sfn subframe symbol k) _ _ _ _ (rw (e, none_left) at there)
        (λ here. sent-size port (port_point port plan sfn) (broadcast_full port plan sfn) _ (rw here at pair))
        (λ has. sent-size port (indicator_point plan subframe) (indicator_full plan subframe) _ (none_of_others port has _))
        (λ has. sent-size port (control_point plan sfn) (control_full plan sfn) _ (none_of_others port has _))
        (λ has. sent-size port (shared_point plan sfn) (shared_full plan sfn) _ (none_of_others port has _)))
