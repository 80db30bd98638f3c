-- The appended parts are encodings of the larger fields.
use Rattle.std.proofs.Common.{◌≡◌, ℕ, ◌+◌, ◌-◌, ◌≤◌, ℤ, pos, ◌-ℤ◌, Bool, true, false, not, List, length, Option, Some, None, refl, ap, ap₂, sym, subst, ◌∙◌, arith}
use Rattle.std.specs.Prelude.{is_some, IfSome}
use Rattle.lte_types.specs.declared.si_message.SiMessage.{SiMessage}
use Rattle.lte_types.specs.declared.plmn.Plmn.{Plmn}
use Rattle.lte_types.specs.declared.sib1.Sib1.{Sib1}
use Rattle.lte_types.specs.Ranges.{IsGroup, IsLevelOffset, IsTddConfig}
use Rattle.uper.specs.Grammar.{done, from_to}
use Rattle.lte_types.specs.declared.cell_access_related_info.CellAccessRelatedInfo.{CellAccessRelatedInfo}
use Rattle.lte_types.specs.declared.cell_selection_info.CellSelectionInfo.{CellSelectionInfo}
use Rattle.uper.specs.Grammar.{flag, if_present, times}
use Rattle.sib1.specs.Layout.{plmn_identity_list, cell_access_related_info, q_rx_lev_min_offset, cell_selection_info, p_max, sib_type, si_periodicity, scheduling_info, scheduling_info_list, tdd_config, si_window_length, sib1}
use Rattle.lte_types.specs.Parts.{access_of, selection_of}
use Rattle.uper.specs.Sheet.{Puts}
use Rattle.uper.proofs.Putting.{puts_bind, puts_done, puts_same}
use Rattle.uper.proofs.Putting.{some_puts}

abbrev State : Type 0
State = Option (List Bool)

abbrev PutsWithin : ℕ → ℕ → State → State → Type 0
PutsWithin width n old new = (least greatest : ℕ) → least ≤ n → n ≤ greatest → Puts (from_to width least greatest) n old new

pub sib_long : (code : ℕ) (old a b new : State) → 16 ≤ code → Puts flag true old a → Puts (from_to 1 0 0) 0 a b → Puts (from_to 6 0 63) (code - 16) b new → Puts sib_type code old new
unfolding sib_type
sib_long code old a b new far p q r =
    puts_bind flag _ true code old a new p
    (puts_bind (from_to 1 0 0) _ 0 code a b new q
    (puts_bind (from_to 6 0 63) (λ n. done (n + 16)) (code - 16) code b new new r
    (puts_same (done (code - 16 + 16)) (code - 16 + 16) code new new (omega (arith, far)) (puts_done (code - 16 + 16) new))))

pub sib_short : (code : ℕ) (old a new : State) → Puts flag false old a → Puts (from_to 4 0 15) code a new → Puts sib_type code old new
unfolding sib_type
sib_short code old a new p q = puts_bind flag _ false code old a new p q

pub message_puts : (m : SiMessage) (codes : List ℕ) (old a b new : State) → codes ≡ m.sibs → Puts si_periodicity m.period old a → Puts (from_to 5 0 31) (length codes) a b → Puts (times (length codes) sib_type) codes b new → Puts scheduling_info m old new
unfolding scheduling_info
message_puts m codes old a b new e p q r =
    subst (λ sibs. Puts scheduling_info (let n : SiMessage = record { period = m.period; sibs = sibs } in n) old new) e
    (puts_bind si_periodicity _ m.period _ old a new p
    (puts_bind (from_to 5 0 31) _ (length codes) _ a b new q
    (puts_bind (times (length codes) sib_type) (λ sibs. done (let n : SiMessage = record { period = m.period; sibs = sibs } in n)) codes _ b new new r
    (puts_done (let n : SiMessage = record { period = m.period; sibs = codes } in n) new))))

pub schedule_puts : (list : List SiMessage) (old a new : State) → 1 ≤ length list → Puts (from_to 5 0 31) (length list - 1) old a → Puts (times (length list) scheduling_info) list a new → Puts scheduling_info_list list old new
unfolding scheduling_info_list
schedule_puts list old a new some p q =
    let e : length list ≡ length list - 1 + 1 = omega (arith, some) in
    puts_bind (from_to 5 0 31) (λ n. times (n + 1) scheduling_info) (length list - 1) list old a new p (subst (λ n. Puts (times n scheduling_info) list a new) e q)

-- ---- optional parts

pub csg_puts : (o : Option ℕ) (n : ℕ) (old new : State) → o ≡ Some n → IfSome o IsGroup → PutsWithin 27 n old new → Puts (if_present (is_some o) (from_to 27 0 134217727)) o old new
csg_puts (Some m) n old new e small p =
    let same : m ≡ n = cc in
    some_puts (from_to 27 0 134217727) (Some m) n old new e (p 0 134217727 (omega arith) (omega (arith, small, same)))
csg_puts None n old new e small p = absurd cc

pub offset_puts : (o : Option ℕ) (n : ℕ) (old new : State) → o ≡ Some n → IfSome o IsLevelOffset → PutsWithin 3 (n - 1) old new → Puts (if_present (is_some o) q_rx_lev_min_offset) o old new
unfolding q_rx_lev_min_offset
offset_puts (Some m) n old new e small p =
    let same : m ≡ n = cc in
    let low = small.0 in
    let high = small.1 in
    some_puts q_rx_lev_min_offset (Some m) n old new e
    (puts_bind (from_to 3 0 7) (λ k. done (k + 1)) (n - 1) n old new new (p 0 7 (omega arith) (omega (arith, high, same)))
    (puts_same (done (n - 1 + 1)) (n - 1 + 1) n new new (omega (arith, low, same)) (puts_done (n - 1 + 1) new)))
offset_puts None n old new e small p = absurd cc

pub power_puts : (o : Option ℤ) (z : ℤ) (n : ℕ) (old new : State) → o ≡ Some z → pos n -ℤ pos 30 ≡ z → n ≤ 63 → PutsWithin 6 n old new → Puts (if_present (is_some o) p_max) o old new
unfolding p_max
power_puts o z n old new e is small p =
    some_puts p_max o z old new e
    (puts_bind (from_to 6 0 63) (λ k. done (pos k -ℤ pos 30)) n z old new new (p 0 63 (omega arith) small)
    (puts_same (done (pos n -ℤ pos 30)) (pos n -ℤ pos 30) z new new is (puts_done (pos n -ℤ pos 30) new)))

pub tdd_puts : (o : Option (ℕ × ℕ)) (m n : ℕ) (old mid new : State) → o ≡ Some (m, n) → IfSome o IsTddConfig → PutsWithin 3 m old mid → PutsWithin 4 n mid new → Puts (if_present (is_some o) tdd_config) o old new
unfolding tdd_config
tdd_puts o m n old mid new e small p q =
    let both : (m ≤ 6) × (n ≤ 8) = subst (λ v. IfSome v IsTddConfig) e small in
    some_puts tdd_config o (m, n) old new e
    (puts_bind (from_to 3 0 6) _ m (m, n) old mid new (p 0 6 (omega arith) both.0)
    (puts_bind (from_to 4 0 8) (λ k. done (m, k)) n (m, n) mid new new (q 0 8 (omega arith) both.1) (puts_done (m, n) new)))

-- ---- the larger parts

twice : (b : Bool) → not (not b) ≡ b
twice true = refl
twice false = refl

abbrev accessed : Sib1 → List Plmn → Bool → Bool → CellAccessRelatedInfo
accessed s list barred intra = record { plmns = list; tac = s.tac; cell = s.cell; barred = barred; intra = intra; csg = s.csg; csg_identity = s.csg_identity }

accessed_is : (s : Sib1) (list : List Plmn) → list ≡ s.plmns → accessed s list (not (not s.barred)) (not (not s.intra)) ≡ access_of s
accessed_is s list e = ap₂ (accessed s list) (twice s.barred) (twice s.intra) ∙ ap (λ l. accessed s l s.barred s.intra) e

pub access_puts : (s : Sib1) (list : List Plmn) (has : Bool) (s0 s1 s2 s3 s4 s5 s6 s7 s8 : State) → list ≡ s.plmns → has ≡ is_some s.csg_identity
    → Puts flag has s0 s1 → Puts plmn_identity_list list s1 s2 → Puts (from_to 16 0 65535) s.tac s2 s3 → Puts (from_to 28 0 268435455) s.cell s3 s4
    → Puts flag (not s.barred) s4 s5 → Puts flag (not s.intra) s5 s6 → Puts flag s.csg s6 s7 → Puts (if_present (is_some s.csg_identity) (from_to 27 0 134217727)) s.csg_identity s7 s8 → Puts cell_access_related_info (access_of s) s0 s8
unfolding cell_access_related_info
access_puts s list has s0 s1 s2 s3 s4 s5 s6 s7 s8 e f p0 p1 p2 p3 p4 p5 p6 p7 =
    let made = accessed s list (not (not s.barred)) (not (not s.intra)) in
    let last : Puts (if_present has (from_to 27 0 134217727)) s.csg_identity s7 s8 = subst (λ b. Puts (if_present b (from_to 27 0 134217727)) s.csg_identity s7 s8) (sym f) p7 in
    puts_same _ made (access_of s) s0 s8 (accessed_is s list e)
    (puts_bind flag _ has made s0 s1 s8 p0
    (puts_bind plmn_identity_list _ list made s1 s2 s8 p1
    (puts_bind (from_to 16 0 65535) _ s.tac made s2 s3 s8 p2
    (puts_bind (from_to 28 0 268435455) _ s.cell made s3 s4 s8 p3
    (puts_bind flag _ (not s.barred) made s4 s5 s8 p4
    (puts_bind flag _ (not s.intra) made s5 s6 s8 p5
    (puts_bind flag _ s.csg made s6 s7 s8 p6
    (puts_bind (if_present has (from_to 27 0 134217727)) _ s.csg_identity made s7 s8 s8 last (puts_done made s8)))))))))

abbrev selected : Sib1 → ℤ → CellSelectionInfo
selected s level = record { q_rx = level; q_offset = s.q_offset }

pub selection_puts : (s : Sib1) (has : Bool) (n : ℕ) (s0 s1 s2 s3 : State) → has ≡ is_some s.q_offset → pos n -ℤ pos 70 ≡ s.q_rx
    → Puts flag has s0 s1 → Puts (from_to 6 0 48) n s1 s2 → Puts (if_present (is_some s.q_offset) q_rx_lev_min_offset) s.q_offset s2 s3 → Puts cell_selection_info (selection_of s) s0 s3
unfolding cell_selection_info
selection_puts s has n s0 s1 s2 s3 e f p0 p1 p2 =
    let made = selected s (pos n -ℤ pos 70) in
    let last : Puts (if_present has q_rx_lev_min_offset) s.q_offset s2 s3 = subst (λ b. Puts (if_present b q_rx_lev_min_offset) s.q_offset s2 s3) (sym e) p2 in
    puts_same _ made (selection_of s) s0 s3 (ap (selected s) f)
    (puts_bind flag _ has made s0 s1 s3 p0
    (puts_bind (from_to 6 0 48) _ n made s1 s2 s3 p1
    (puts_bind (if_present has q_rx_lev_min_offset) _ s.q_offset made s2 s3 s3 last (puts_done made s3))))

abbrev whole : Sib1 → List SiMessage → ℕ → Sib1
whole s list band = record {
  plmns = s.plmns;
  tac = s.tac;
  cell = s.cell;
  barred = s.barred;
  intra = s.intra;
  csg = s.csg;
  csg_identity = s.csg_identity;
  q_rx = s.q_rx;
  q_offset = s.q_offset;
  p_max = s.p_max;
  band = band;
  scheduling = list;
  tdd = s.tdd;
  window = s.window;
  tag = s.tag;
  extended = s.extended;
}

pub sib1_puts : (s : Sib1) (list : List SiMessage) (has_p_max has_tdd : Bool) (s0 s1 s2 s3 s4 s5 s6 s7 s8 s9 s10 s11 s12 s13 : State)
    → list ≡ s.scheduling → has_p_max ≡ is_some s.p_max → has_tdd ≡ is_some s.tdd → 1 ≤ s.band
    → Puts (from_to 1 0 0) 0 s0 s1 → Puts (from_to 1 1 1) 1 s1 s2 → Puts flag has_p_max s2 s3 → Puts flag has_tdd s3 s4 → Puts flag s.extended s4 s5
    → Puts cell_access_related_info (access_of s) s5 s6 → Puts cell_selection_info (selection_of s) s6 s7 → Puts (if_present (is_some s.p_max) p_max) s.p_max s7 s8 → Puts (from_to 6 0 63) (s.band - 1) s8 s9
    → Puts scheduling_info_list list s9 s10 → Puts (if_present (is_some s.tdd) tdd_config) s.tdd s10 s11 → Puts si_window_length s.window s11 s12 → Puts (from_to 5 0 31) s.tag s12 s13 → Puts sib1 s s0 s13
unfolding sib1
sib1_puts s list has_p_max has_tdd s0 s1 s2 s3 s4 s5 s6 s7 s8 s9 s10 s11 s12 s13 e f g low p0 p1 p2 p3 p4 p5 p6 p7 p8 p9 p10 p11 p12 =
    let made = whole s list (s.band - 1 + 1) in
    let band_is : s.band - 1 + 1 ≡ s.band = omega (arith, low) in
    let power_put : Puts (if_present has_p_max p_max) s.p_max s7 s8 = subst (λ b. Puts (if_present b p_max) s.p_max s7 s8) (sym f) p7 in
    let tdd_put : Puts (if_present has_tdd tdd_config) s.tdd s10 s11 = subst (λ b. Puts (if_present b tdd_config) s.tdd s10 s11) (sym g) p10 in
    puts_same _ made s s0 s13 (ap₂ (whole s) e band_is)
    (puts_bind (from_to 1 0 0) _ 0 made s0 s1 s13 p0
    (puts_bind (from_to 1 1 1) _ 1 made s1 s2 s13 p1
    (puts_bind flag _ has_p_max made s2 s3 s13 p2
    (puts_bind flag _ has_tdd made s3 s4 s13 p3
    (puts_bind flag _ s.extended made s4 s5 s13 p4
    (puts_bind cell_access_related_info _ (access_of s) made s5 s6 s13 p5
    (puts_bind cell_selection_info _ (selection_of s) made s6 s7 s13 p6
    (puts_bind (if_present has_p_max p_max) _ s.p_max made s7 s8 s13 power_put
    (puts_bind (from_to 6 0 63) _ (s.band - 1) made s8 s9 s13 p8
    (puts_bind scheduling_info_list _ list made s9 s10 s13 p9
    (puts_bind (if_present has_tdd tdd_config) _ s.tdd made s10 s11 s13 tdd_put
    (puts_bind si_window_length _ s.window made s11 s12 s13 p11
    (puts_bind (from_to 5 0 31) _ s.tag made s12 s13 s13 p12 (puts_done made s13))))))))))))))
