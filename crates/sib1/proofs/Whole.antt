-- The complete message, field by field.
use Rattle.std.proofs.Common.{◌≡◌, ℕ, ◌+◌, ℤ, Bool, List, Option, Ok}
use Rattle.lte_types.specs.declared.si_message.SiMessage.{SiMessage}
use Rattle.lte_types.specs.declared.sib1.Sib1.{Sib1}
use Rattle.uper.specs.Cursor.{Cursor}
use Rattle.uper.specs.Grammar.{from_to}
use Rattle.uper.specs.Reading.{reading}
use Rattle.uper.proofs.Reading.{reads_bind}
use Rattle.lte_types.specs.declared.cell_access_related_info.CellAccessRelatedInfo.{CellAccessRelatedInfo}
use Rattle.lte_types.specs.declared.cell_selection_info.CellSelectionInfo.{CellSelectionInfo}
use Rattle.uper.specs.Grammar.{flag, if_present}
use Rattle.sib1.specs.Layout.{cell_access_related_info, cell_selection_info, p_max, scheduling_info_list, tdd_config, si_window_length, sib1}
use Rattle.uper.proofs.Steps.{reads_done}

abbrev pub made : CellAccessRelatedInfo → CellSelectionInfo → Bool → Option ℤ → ℕ → List SiMessage → Option (ℕ × ℕ) → ℕ → ℕ → Sib1
made acc sel extended power band scheduling tdd window tag =
    record { plmns = acc.plmns; tac = acc.tac; cell = acc.cell; barred = acc.barred; intra = acc.intra; csg = acc.csg; csg_identity = acc.csg_identity; q_rx = sel.q_rx; q_offset = sel.q_offset; p_max = power; band = band + 1; scheduling = scheduling; tdd = tdd; window = window; tag = tag; extended = extended }

pub sib1_read : (s0 s1 s2 s3 s4 s5 s6 s7 s8 s9 s10 s11 s12 s13 : Cursor) (a : ℕ) (b : ℕ) (has_p_max : Bool) (has_tdd : Bool) (extended : Bool) (acc : CellAccessRelatedInfo) (sel : CellSelectionInfo) (power : Option ℤ) (band : ℕ) (scheduling : List SiMessage) (tdd : Option (ℕ × ℕ)) (window : ℕ) (tag : ℕ)
    → reading (from_to 1 0 0) s0 ≡ Ok (a, s1)
    → reading (from_to 1 1 1) s1 ≡ Ok (b, s2)
    → reading (flag) s2 ≡ Ok (has_p_max, s3)
    → reading (flag) s3 ≡ Ok (has_tdd, s4)
    → reading (flag) s4 ≡ Ok (extended, s5)
    → reading (cell_access_related_info) s5 ≡ Ok (acc, s6)
    → reading (cell_selection_info) s6 ≡ Ok (sel, s7)
    → reading (if_present has_p_max p_max) s7 ≡ Ok (power, s8)
    → reading (from_to 6 0 63) s8 ≡ Ok (band, s9)
    → reading (scheduling_info_list) s9 ≡ Ok (scheduling, s10)
    → reading (if_present has_tdd tdd_config) s10 ≡ Ok (tdd, s11)
    → reading si_window_length s11 ≡ Ok (window, s12)
    → reading (from_to 5 0 31) s12 ≡ Ok (tag, s13)
    → reading sib1 s0 ≡ Ok (made acc sel extended power band scheduling tdd window tag, s13)
unfolding sib1
sib1_read s0 s1 s2 s3 s4 s5 s6 s7 s8 s9 s10 s11 s12 s13 a b has_p_max has_tdd extended acc sel power band scheduling tdd window tag h0 h1 h2 h3 h4 h5 h6 h7 h8 h9 h10 h11 h12 =
    reads_bind _ _ _ _ _ _ h0 (reads_bind _ _ _ _ _ _ h1 (reads_bind _ _ _ _ _ _ h2 (reads_bind _ _ _ _ _ _ h3 (reads_bind _ _ _ _ _ _ h4 (reads_bind _ _ _ _ _ _ h5 (reads_bind _ _ _ _ _ _ h6 (reads_bind _ _ _ _ _ _ h7 (reads_bind _ _ _ _ _ _ h8 (reads_bind _ _ _ _ _ _ h9 (reads_bind _ _ _ _ _ _ h10 (reads_bind _ _ _ _ _ _ h11 (reads_bind _ _ _ _ _ _ h12 (reads_done _ _)))))))))))))
