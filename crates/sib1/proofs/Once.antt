-- A block has one encoding.
use Rattle.std.proofs.Common.{◌≡◌, ℕ, ◌+◌, ◌-◌, pos, ◌+ℤ◌, ◌-ℤ◌, nat_abs, Bool, true, false, cond, not, leb, nat_eq, List, ◌∷◌, length, drop, Option, refl, ap, sym, ◌∙◌, arith}
use Rattle.std.specs.Prelude.{⊤, is_some}
use Rattle.std.proofs.Math.IntN.{ -ℤ-+ℤ_cancel}
use Rattle.std.proofs.lemmas.Bool.{le-leb, lt-leb}
use Rattle.lte_types.specs.declared.mnc.Mnc.{Mnc}
use Rattle.lte_types.specs.declared.mnc.Mnc.TheVariants.{Two, Three}
use Rattle.lte_types.specs.declared.plmn.Plmn.{Plmn}
use Rattle.lte_types.specs.declared.si_message.SiMessage.{SiMessage}
use Rattle.lte_types.specs.declared.sib1.Sib1.{Sib1}
use Rattle.lte_types.specs.declared.cell_access_related_info.CellAccessRelatedInfo.{CellAccessRelatedInfo}
use Rattle.lte_types.specs.declared.cell_selection_info.CellSelectionInfo.{CellSelectionInfo}
use Rattle.uper.specs.Grammar.{Grammar, done, ◌>>=◌, from_to, flag, if_present, times}
use Rattle.uper.proofs.Laws.{Holds, holds_done, holds_bind, within, present_is, length_is, Once, agree_done, agree_bind, once_bind, agree_same, agree_decoded, once_number, only, same_bit, once_flag, once_present, once_times}
use Rattle.sib1.specs.Layout.{digit, mnc, plmn_identity_info, plmn_identity_list, csg_identity, cell_access_related_info, q_rx_lev_min_offset, cell_selection_info, p_max, sib_type, si_periodicity, scheduling_info, scheduling_info_list, tdd_config, si_window_length, sib1}
use Rattle.lte_types.specs.Parts.{access_of, selection_of}

-- a flag's negation and a shifted number determine the flag and the number
not_same : (v w : Bool) → not v ≡ not w → v ≡ w
not_same true true e = refl
not_same false false e = refl
not_same true false e = absurd cc
not_same false true e = absurd cc

one_less : (v w : ℕ) → v + 1 ≡ w + 1 → v ≡ w
one_less v w e = omega (arith, e)

less_by : (k v w : ℕ) → pos v -ℤ pos k ≡ pos w -ℤ pos k → v ≡ w
less_by k v w e = ap nat_abs (sym (-ℤ-+ℤ_cancel (pos v) (pos k)) ∙ ap (λ z. z +ℤ pos k) e ∙ -ℤ-+ℤ_cancel (pos w) (pos k))

-- ---- plmn-IdentityList

once_digits : (n : ℕ) → Once (times n digit)
once_digits n = once_times n digit (once_number 4 0 9)

is_long : Mnc → Bool
is_long (Two digits) = false
is_long (Three digits) = true

two_same : (v w : List ℕ) → Two v ≡ Two w → v ≡ w
two_same v w e = cc

three_same : (v w : List ℕ) → Three v ≡ Three w → v ≡ w
three_same v w e = cc

abbrev mnc_of : Bool → Grammar Mnc
mnc_of long = cond long (times 3 digit >>= (λ digits. done (Three digits))) (times 2 digit >>= (λ digits. done (Two digits)))

once_mnc_of : (long : Bool) → Once (mnc_of long)
once_mnc_of true = once_bind ⊤ (times 3 digit) (λ digits. done (Three digits)) (λ digits. done (Three digits)) (once_digits 3) (λ v w s r p q. agree_done (⊤ × (v ≡ w)) (Three v) (Three w) (λ e. (tt, three_same v w e)))
once_mnc_of false = once_bind ⊤ (times 2 digit) (λ digits. done (Two digits)) (λ digits. done (Two digits)) (once_digits 2) (λ v w s r p q. agree_done (⊤ × (v ≡ w)) (Two v) (Two w) (λ e. (tt, two_same v w e)))

long_decoded : (long : Bool) → Holds (mnc_of long) (λ m. is_long m ≡ long)
unfolding is_long
long_decoded true = holds_bind (times 3 digit) (λ digits. done (Three digits)) (λ m. is_long m ≡ true) (λ v s h. holds_done (Three v) (λ m. is_long m ≡ true) refl)
long_decoded false = holds_bind (times 2 digit) (λ digits. done (Two digits)) (λ m. is_long m ≡ false) (λ v s h. holds_done (Two v) (λ m. is_long m ≡ false) refl)

once_mnc : Once mnc
unfolding mnc
once_mnc = once_bind ⊤ flag mnc_of mnc_of once_flag (λ v w s r p q. agree_decoded mnc_of is_long v w once_mnc_of long_decoded)

abbrev mcc_of : ℕ → Grammar (Option (List ℕ))
mcc_of has = if_present (nat_eq has 1) (times 3 digit)

once_plmn_identity_info : (least : ℕ) → Once (plmn_identity_info least)
unfolding plmn_identity_info
once_plmn_identity_info least =
    once_bind ⊤ (from_to 1 least 1) _ _ (once_number 1 least 1) (λ v0 w0 s0 r0 p0 q0.
    agree_bind _ (mcc_of v0) (mcc_of w0) _ _ (λ e. agree_same mcc_of v0 w0 e.1 (λ n. once_present (nat_eq n 1) (times 3 digit) (once_digits 3))) (λ v1 w1 s1 r1 p1 q1.
    once_bind _ mnc _ _ once_mnc (λ v2 w2 s2 r2 p2 q2.
    once_bind _ flag _ _ once_flag (λ v3 w3 s3 r3 p3 q3.
    agree_done _ _ _ (λ e.
    let mcc : v1 ≡ w1 = ap (λ (y : Plmn). y.mcc) e in
    let there : nat_eq v0 1 ≡ nat_eq w0 1 = sym (present_is (nat_eq v0 1) (times 3 digit) s1 v1 p1) ∙ ap is_some mcc ∙ present_is (nat_eq w0 1) (times 3 digit) r1 w1 q1 in
    let has : v0 ≡ w0 = same_bit v0 w0 (within 1 least 1 s0 v0 p0).below (within 1 least 1 r0 w0 q0).below there in
    let mnc : v2 ≡ w2 = ap (λ (y : Plmn). y.mnc) e in
    let reserved : v3 ≡ w3 = not_same v3 w3 (ap (λ (y : Plmn). y.reserved) e) in
    ((((tt, has), mcc), mnc), reserved))))))

first_same : (v w : Plmn) (vs ws : List Plmn) → v ∷ vs ≡ w ∷ ws → v ≡ w
first_same v w vs ws e = cc

once_plmn_identity_list : Once plmn_identity_list
unfolding plmn_identity_list
once_plmn_identity_list =
    once_bind ⊤ (from_to 3 0 5) _ _ (once_number 3 0 5) (λ v0 w0 s0 r0 p0 q0.
    once_bind _ (plmn_identity_info 1) _ _ (once_plmn_identity_info 1) (λ v1 w1 s1 r1 p1 q1.
    agree_bind _ (times v0 (plmn_identity_info 0)) (times w0 (plmn_identity_info 0)) _ _ (λ e. agree_same (λ n. times n (plmn_identity_info 0)) v0 w0 e.0.1 (λ n. once_times n (plmn_identity_info 0) (once_plmn_identity_info 0))) (λ v2 w2 s2 r2 p2 q2.
    agree_done _ _ _ (λ e.
    let first : v1 ≡ w1 = first_same v1 w1 v2 w2 e in
    let others : v2 ≡ w2 = ap (drop 1) e in
    let further : v0 ≡ w0 = sym (length_is v0 (plmn_identity_info 0) s2 v2 p2) ∙ ap length others ∙ length_is w0 (plmn_identity_info 0) r2 w2 q2 in
    (((tt, further), first), others)))))

-- ---- cellAccessRelatedInfo and cellSelectionInfo

once_cell_access_related_info : Once cell_access_related_info
unfolding cell_access_related_info
once_cell_access_related_info =
    once_bind ⊤ flag _ _ once_flag (λ v0 w0 s0 r0 p0 q0.
    once_bind _ plmn_identity_list _ _ once_plmn_identity_list (λ v1 w1 s1 r1 p1 q1.
    once_bind _ (from_to 16 0 65535) _ _ (once_number 16 0 65535) (λ v2 w2 s2 r2 p2 q2.
    once_bind _ (from_to 28 0 268435455) _ _ (once_number 28 0 268435455) (λ v3 w3 s3 r3 p3 q3.
    once_bind _ flag _ _ once_flag (λ v4 w4 s4 r4 p4 q4.
    once_bind _ flag _ _ once_flag (λ v5 w5 s5 r5 p5 q5.
    once_bind _ flag _ _ once_flag (λ v6 w6 s6 r6 p6 q6.
    agree_bind _ (if_present v0 csg_identity) (if_present w0 csg_identity) _ _ (λ e. agree_same (λ b. if_present b csg_identity) v0 w0 e.0.0.0.0.0.0.1 (λ b. once_present b csg_identity (once_number 27 0 134217727))) (λ v7 w7 s7 r7 p7 q7.
    agree_done _ _ _ (λ e.
    let identity : v7 ≡ w7 = ap (λ (y : CellAccessRelatedInfo). y.csg_identity) e in
    let has : v0 ≡ w0 = sym (present_is v0 csg_identity s7 v7 p7) ∙ ap is_some identity ∙ present_is w0 csg_identity r7 w7 q7 in
    let plmns : v1 ≡ w1 = ap (λ (y : CellAccessRelatedInfo). y.plmns) e in
    let tac : v2 ≡ w2 = ap (λ (y : CellAccessRelatedInfo). y.tac) e in
    let cell : v3 ≡ w3 = ap (λ (y : CellAccessRelatedInfo). y.cell) e in
    let barred : v4 ≡ w4 = not_same v4 w4 (ap (λ (y : CellAccessRelatedInfo). y.barred) e) in
    let intra : v5 ≡ w5 = not_same v5 w5 (ap (λ (y : CellAccessRelatedInfo). y.intra) e) in
    let csg : v6 ≡ w6 = ap (λ (y : CellAccessRelatedInfo). y.csg) e in
    ((((((((tt, has), plmns), tac), cell), barred), intra), csg), identity))))))))))

once_q_rx_lev_min_offset : Once q_rx_lev_min_offset
unfolding q_rx_lev_min_offset
once_q_rx_lev_min_offset = once_bind ⊤ (from_to 3 0 7) _ _ (once_number 3 0 7) (λ v w s r p q. agree_done _ _ _ (λ e. (tt, one_less v w e)))

once_cell_selection_info : Once cell_selection_info
unfolding cell_selection_info
once_cell_selection_info =
    once_bind ⊤ flag _ _ once_flag (λ v0 w0 s0 r0 p0 q0.
    once_bind _ (from_to 6 0 48) _ _ (once_number 6 0 48) (λ v1 w1 s1 r1 p1 q1.
    agree_bind _ (if_present v0 q_rx_lev_min_offset) (if_present w0 q_rx_lev_min_offset) _ _ (λ e. agree_same (λ b. if_present b q_rx_lev_min_offset) v0 w0 e.0.1 (λ b. once_present b q_rx_lev_min_offset once_q_rx_lev_min_offset)) (λ v2 w2 s2 r2 p2 q2.
    agree_done _ _ _ (λ e.
    let offset : v2 ≡ w2 = ap (λ (y : CellSelectionInfo). y.q_offset) e in
    let has : v0 ≡ w0 = sym (present_is v0 q_rx_lev_min_offset s2 v2 p2) ∙ ap is_some offset ∙ present_is w0 q_rx_lev_min_offset r2 w2 q2 in
    let level : v1 ≡ w1 = less_by 70 v1 w1 (ap (λ (y : CellSelectionInfo). y.q_rx) e) in
    (((tt, has), level), offset)))))

once_p_max : Once p_max
unfolding p_max
once_p_max = once_bind ⊤ (from_to 6 0 63) _ _ (once_number 6 0 63) (λ v w s r p q. agree_done _ _ _ (λ e. (tt, less_by 30 v w e)))

-- ---- schedulingInfoList

abbrev type_of : Bool → Grammar ℕ
type_of extension = cond extension (from_to 1 0 0 >>= (λ long. from_to 6 0 63 >>= (λ n. done (n + 16)))) (from_to 4 0 15)

once_type_of : (extension : Bool) → Once (type_of extension)
once_type_of true =
    once_bind ⊤ (from_to 1 0 0) _ _ (once_number 1 0 0) (λ v0 w0 s0 r0 p0 q0.
    once_bind _ (from_to 6 0 63) _ _ (once_number 6 0 63) (λ v1 w1 s1 r1 p1 q1.
    agree_done _ (v1 + 16) (w1 + 16) (λ e. ((tt, sym (only 1 0 s0 v0 p0) ∙ only 1 0 r0 w0 q0), omega (arith, e)))))
once_type_of false = once_number 4 0 15

extension_decoded : (extension : Bool) → Holds (type_of extension) (λ code. leb 16 code ≡ extension)
extension_decoded true =
    holds_bind (from_to 1 0 0) _ (λ code. leb 16 code ≡ true) (λ v s h. holds_bind (from_to 6 0 63) _ (λ code. leb 16 code ≡ true) (λ w r g. holds_done (w + 16) (λ code. leb 16 code ≡ true) (le-leb 16 (w + 16) (omega arith))))
extension_decoded false = λ bits y s. lt-leb 16 y (let p = (within 4 0 15 bits y s).below in omega (arith, p))

once_sib_type : Once sib_type
unfolding sib_type
once_sib_type = once_bind ⊤ flag type_of type_of once_flag (λ v w s r p q. agree_decoded type_of (leb 16) v w once_type_of extension_decoded)

once_scheduling_info : Once scheduling_info
unfolding scheduling_info
once_scheduling_info =
    once_bind ⊤ si_periodicity _ _ (once_number 3 0 6) (λ v0 w0 s0 r0 p0 q0.
    once_bind _ (from_to 5 0 31) _ _ (once_number 5 0 31) (λ v1 w1 s1 r1 p1 q1.
    agree_bind _ (times v1 sib_type) (times w1 sib_type) _ _ (λ e. agree_same (λ n. times n sib_type) v1 w1 e.1 (λ n. once_times n sib_type once_sib_type)) (λ v2 w2 s2 r2 p2 q2.
    agree_done _ _ _ (λ e.
    let period : v0 ≡ w0 = ap (λ (y : SiMessage). y.period) e in
    let sibs : v2 ≡ w2 = ap (λ (y : SiMessage). y.sibs) e in
    let count : v1 ≡ w1 = sym (length_is v1 sib_type s2 v2 p2) ∙ ap length sibs ∙ length_is w1 sib_type r2 w2 q2 in
    (((tt, period), count), sibs)))))

abbrev entries_of : ℕ → Grammar (List SiMessage)
entries_of further = times (further + 1) scheduling_info

further_decoded : (further : ℕ) → Holds (entries_of further) (λ list. length list - 1 ≡ further)
further_decoded further bits list s = let size = length_is (further + 1) scheduling_info bits list s in omega (arith, size)

once_scheduling_info_list : Once scheduling_info_list
unfolding scheduling_info_list
once_scheduling_info_list =
    once_bind ⊤ (from_to 5 0 31) entries_of entries_of (once_number 5 0 31)
    (λ v w s r p q. agree_decoded entries_of (λ list. length list - 1) v w (λ n. once_times (n + 1) scheduling_info once_scheduling_info) further_decoded)

-- ---- the complete message

once_tdd_config : Once tdd_config
unfolding tdd_config
once_tdd_config =
    once_bind ⊤ (from_to 3 0 6) _ _ (once_number 3 0 6) (λ v0 w0 s0 r0 p0 q0.
    once_bind _ (from_to 4 0 8) _ _ (once_number 4 0 8) (λ v1 w1 s1 r1 p1 q1.
    agree_done _ _ _ (λ e. ((tt, ap (λ (y : ℕ × ℕ). y.0) e), ap (λ (y : ℕ × ℕ). y.1) e))))

pub once_sib1 : Once sib1
unfolding sib1
once_sib1 =
    once_bind ⊤ (from_to 1 0 0) _ _ (once_number 1 0 0) (λ v0 w0 s0 r0 p0 q0.
    once_bind _ (from_to 1 1 1) _ _ (once_number 1 1 1) (λ v1 w1 s1 r1 p1 q1.
    once_bind _ flag _ _ once_flag (λ v2 w2 s2 r2 p2 q2.
    once_bind _ flag _ _ once_flag (λ v3 w3 s3 r3 p3 q3.
    once_bind _ flag _ _ once_flag (λ v4 w4 s4 r4 p4 q4.
    once_bind _ cell_access_related_info _ _ once_cell_access_related_info (λ v5 w5 s5 r5 p5 q5.
    once_bind _ cell_selection_info _ _ once_cell_selection_info (λ v6 w6 s6 r6 p6 q6.
    agree_bind _ (if_present v2 p_max) (if_present w2 p_max) _ _ (λ e. agree_same (λ b. if_present b p_max) v2 w2 e.0.0.0.0.1 (λ b. once_present b p_max once_p_max)) (λ v7 w7 s7 r7 p7 q7.
    once_bind _ (from_to 6 0 63) _ _ (once_number 6 0 63) (λ v8 w8 s8 r8 p8 q8.
    once_bind _ scheduling_info_list _ _ once_scheduling_info_list (λ v9 w9 s9 r9 p9 q9.
    agree_bind _ (if_present v3 tdd_config) (if_present w3 tdd_config) _ _ (λ e. agree_same (λ b. if_present b tdd_config) v3 w3 e.0.0.0.0.0.0.1 (λ b. once_present b tdd_config once_tdd_config)) (λ v10 w10 s10 r10 p10 q10.
    once_bind _ si_window_length _ _ (once_number 3 0 6) (λ v11 w11 s11 r11 p11 q11.
    once_bind _ (from_to 5 0 31) _ _ (once_number 5 0 31) (λ v12 w12 s12 r12 p12 q12.
    agree_done _ _ _ (λ e.
    let c1 : v0 ≡ w0 = sym (only 1 0 s0 v0 p0) ∙ only 1 0 r0 w0 q0 in
    let choice : v1 ≡ w1 = sym (only 1 1 s1 v1 p1) ∙ only 1 1 r1 w1 q1 in
    let power : v7 ≡ w7 = ap (λ (y : Sib1). y.p_max) e in
    let has_p_max : v2 ≡ w2 = sym (present_is v2 p_max s7 v7 p7) ∙ ap is_some power ∙ present_is w2 p_max r7 w7 q7 in
    let tdd : v10 ≡ w10 = ap (λ (y : Sib1). y.tdd) e in
    let has_tdd : v3 ≡ w3 = sym (present_is v3 tdd_config s10 v10 p10) ∙ ap is_some tdd ∙ present_is w3 tdd_config r10 w10 q10 in
    let extended : v4 ≡ w4 = ap (λ (y : Sib1). y.extended) e in
    let access : v5 ≡ w5 = ap access_of e in
    let selection : v6 ≡ w6 = ap selection_of e in
    let band : v8 ≡ w8 = one_less v8 w8 (ap (λ (y : Sib1). y.band) e) in
    let scheduling : v9 ≡ w9 = ap (λ (y : Sib1). y.scheduling) e in
    let window : v11 ≡ w11 = ap (λ (y : Sib1). y.window) e in
    let tag : v12 ≡ w12 = ap (λ (y : Sib1). y.tag) e in
    (((((((((((((tt, c1), choice), has_p_max), has_tdd), extended), access), selection), power), band), scheduling), tdd), window), tag)))))))))))))))
