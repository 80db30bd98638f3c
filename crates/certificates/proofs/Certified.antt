-- Certificates written one after another.
use Rattle.std.proofs.Common.{◌≡◌, ℕ, suc, ◌+◌, ◌*◌, ◌<◌, ◌≤◌, Bool, true, false, cond, List, [], ◌∷◌, ◌++◌, length, take, drop, get_or, Option, None, ℤ, refl, ap, sym, subst, ◌∙◌, arith, add-one, append-nil, length-append}
use Rattle.finite.specs.Sizes.{AllWithin}
use Rattle.finite.specs.Lists.{values_below}
use Rattle.finite.proofs.Sums.{total_below-within}
use Rattle.finite.proofs.Lists.{values_below-length, values_below-All}
use Rattle.std.specs.Prelude.{is_some, Result, Ok, Err, OnOk, OnErr}
use Rattle.std.proofs.Math.Seq.{take-suc}
use Rattle.std.proofs.lemmas.List.{take-append-drop}
use Rattle.std.proofs.lemmas.List.Elements.{Contains-append_right}
use Rattle.std.specs.List.{AllZip, Contains}
use Rattle.std.proofs.lemmas.Grind.{flat_map-append}
use Rattle.cs_num.specs.declared.Sample.{Sample}
use Rattle.cs_outside.specs.Outside.{SinkState}
use Rattle.cs_outside.specs.Streams.{HasWritten, HasWrittenFront, IsShortOf}
use Rattle.cs_outside.proofs.Writing.{write_nothing, write_then, front_after, front_of_longer, short_after, short_of_more}
use Rattle.lte_types.specs.declared.entry.Entry.{Entry}
use Rattle.conv_code.specs.Cost.{word_cost}
use Rattle.tailbite.specs.LeastWord.{IsLeastWord}
use Rattle.pbch.specs.Master.{Decodes, DecodesMaster, Carries}
use Rattle.tailbite.proofs.Only.{one_word}
use Rattle.pbch.proofs.FrameSums.{count_in_frames, small_in_frames, length-summed_values, length-summed_values_row, summed_values-small}
use Rattle.tail_cert.specs.Certificate.{Held, IsWhole, IsAccepted, IsTriple, Counted, tables_there}
use Rattle.tail_cert.specs.Form.{bytes_of, head_count, most_count, table_count}
use Rattle.tail_cert.specs.Forward.{IsFilled}
use Rattle.tail_cert.proofs.Codes.{length-bytes_of}
use Rattle.tail_cert.proofs.Filled.{same_count}
use Rattle.tail_cert.proofs.Exists.{certificate_of, least_has_certificate}
use Rattle.explain.specs.Frame.{values_in}
use Rattle.explain.specs.Receiver.{Receiver, sums_by}
use Rattle.explain.specs.Entries.{IsListFor, master_of, place_of, frames_of}
use Rattle.explain.proofs.Sorted.{Contains-here, Contains-later}
use Rattle.explain.proofs.Listed.{is_sound}
use Rattle.cs_outside.specs.declared.Failed.{Failed}
use Rattle.certificates.specs.Stream.{all_bytes}
use Rattle.certificates.specs.Certifying.{HasSmallValues, Certifies, IsCertificateOf, HasCertified, HasCertifiedFront, HasCertifiedAll, HasCertifiedSome}
use Rattle.certificates.proofs.Judged.{zip_append}

-- certificates for the same entries have equal lengths
pub certified_length : (receiver : Receiver) (samples : List Sample) (entries : List Entry) (cs ds : List Held) → AllZip (Certifies receiver samples) entries cs → AllZip (Certifies receiver samples) entries ds →
    length (all_bytes cs) ≡ length (all_bytes ds)
certified_length receiver samples [] [] [] a b = refl
certified_length receiver samples [] [] (d ∷ ds) a b = absurd b
certified_length receiver samples [] (c ∷ cs) ds a b = absurd a
certified_length receiver samples (e ∷ es) [] ds a b = absurd a
certified_length receiver samples (e ∷ es) (c ∷ cs) [] a b = absurd b
certified_length receiver samples (e ∷ es) (c ∷ cs) (d ∷ ds) (first, rest) (other, others) =
    let many = same_count c d first.filled other.filled (first.values ∙ sym other.values) (first.cost ∙ sym other.cost) in
    let one = length-bytes_of c first.whole in
    let two = length-bytes_of d other.whole in
    let more = certified_length receiver samples es cs ds rest others in
    omega (arith, many, one, two, more, length-append (bytes_of c) (all_bytes cs), length-append (bytes_of d) (all_bytes ds))

-- a certificate is no longer than the longest
pub tables_most : (tables : List (Option (List (List ℕ)))) → head_count + table_count * tables_there tables ≤ most_count
tables_most tables =
    let many = total_below-within 64 1 (λ s. cond (is_some (get_or tables s None)) 1 0) (λ s below. at_most_one (is_some (get_or tables s None))) in
    omega (arith, many)
  where
    at_most_one : (b : Bool) → cond b 1 0 ≤ 1
    at_most_one true = omega arith
    at_most_one false = omega arith

-- ---- an entry's certificate

-- the combined soft values from which a receiver reads an entry's frames
abbrev values_of : Receiver → List Sample → Entry → List (List ℤ)
values_of receiver samples entry = sums_by receiver samples (place_of entry) (frames_of entry)

-- a certificate is one for an entry if it is accepted, and has the values for the entry's frames and their minimum-cost
-- word
pub certifies : (receiver : Receiver) (samples : List Sample) (entry : Entry) (c : Held) → IsWhole c → IsAccepted c → IsFilled c →
    c.values ≡ values_of receiver samples entry →
    DecodesMaster (values_of receiver samples entry) (master_of entry) → IsLeastWord c.values c.word → Certifies receiver samples entry c
certifies receiver samples entry c whole accepted filled values decodes least =
    let there : DecodesMaster c.values (master_of entry) = subst (λ v. DecodesMaster v (master_of entry)) (sym values) decodes in
    let same : there.word ≡ c.word = one_word c.values there.word c.word there.decodes.least least in
    record {
      whole = whole;
      accepted = accepted;
      filled = filled;
      values = values;
      word = subst (λ w. Decodes c.values w entry.ports) same there.decodes;
      block = subst (λ w. Carries w entry.mib) same there.mib;
      cost = accepted.stated ∙ ap (word_cost c.values) (sym same) ∙ sym there.cost;
    }

-- the same, with the values from which it was filled
pub certifies_filled : (receiver : Receiver) (samples : List Sample) (entry : Entry) (c : Held) (v : List (List ℤ)) → IsWhole c → IsAccepted c → IsFilled c → c.values ≡ v →
    v ≡ values_of receiver samples entry → DecodesMaster v (master_of entry) → IsLeastWord v c.word → Certifies receiver samples entry c
certifies_filled receiver samples entry c v whole accepted filled same values decodes least =
    certifies receiver samples entry c whole accepted filled (same ∙ values) (subst (λ v. DecodesMaster v (master_of entry)) values decodes) (subst (λ v. IsLeastWord v c.word) (sym same) least)

-- an entry's values have the shape and the magnitudes that a certificate requires
values_fit : (receiver : Receiver) (samples : List Sample) (entry : Entry) → HasSmallValues receiver → entry.frames ≤ 4 → Counted 40 IsTriple (values_of receiver samples entry)
values_fit receiver samples entry within few =
    let values : ℕ → List ℤ = receiver.broadcast samples (place_of entry) in
    let each : ℕ → List ℤ = λ m. values (entry.frame + m) in
    let frames = values_below entry.frames each in
    let received = values_in values entry.frames entry.frame in
    let first = receiver.count * entry.phase in
    let many = values_below-length entry.frames each in
    let long = count_in_frames frames (values_below-All (λ (frame : List ℤ). length frame ≤ 480) entry.frames each []
    (λ m below. within.few samples (place_of entry) (entry.frame + m))) in
    let small = small_in_frames frames (values_below-All (AllWithin 127) entry.frames each [] (λ m below. within.small samples (place_of entry) (entry.frame + m))) in
    let count = length-summed_values entry.id first received in
    let sizes = summed_values-small entry.id first received small (omega (arith, many, long, few)) in
    record {
      count = count;
      all = λ k d inside. record {
        count = length-summed_values_row entry.id first received k d (omega (arith, inside, count));
        all = λ t e there. let s = sizes k d inside t e there in omega (arith, s);
      };
    }

-- each entry of the list has a certificate
entry_has_certificate : (receiver : Receiver) (samples : List Sample) (entries : List Entry) (entry : Entry) → HasSmallValues receiver → IsListFor receiver samples entries → Contains entries entry →
    (c : Held) × Certifies receiver samples entry c
entry_has_certificate receiver samples entries entry within explained inside =
    let known = is_sound receiver samples entries entry explained inside in
    let values = values_of receiver samples entry in
    let decodes : DecodesMaster values (master_of entry) = known.is_of.master.decoded in
    let fit = values_fit receiver samples entry within known.is_of.frames.inside.few in
    let made = least_has_certificate values decodes.word fit decodes.decodes.least in (
      certificate_of values decodes.word,
      certifies receiver samples entry (certificate_of values decodes.word) made.whole made.accepted made.filled made.values_are decodes
          (subst (λ w. IsLeastWord (certificate_of values decodes.word).values w) (sym made.word_is) (subst (λ v. IsLeastWord v decodes.word) (sym made.values_are) decodes.decodes.least)),
    )

-- all entries of a list have certificates
pub entries_have : (receiver : Receiver) (samples : List Sample) (entries rest : List Entry) → HasSmallValues receiver → IsListFor receiver samples entries → ((entry : Entry) → Contains rest entry → Contains entries entry) →
    (cs : List Held) × AllZip (Certifies receiver samples) rest cs
entries_have receiver samples entries [] within explained inside = ([], tt)
entries_have receiver samples entries (e ∷ rest) within explained inside =
    let (c, first) = entry_has_certificate receiver samples entries e within explained (inside e (Contains-here e rest)) in
    let (cs, more) = entries_have receiver samples entries rest within explained (λ entry there. inside entry (Contains-later e rest entry there)) in
    (c ∷ cs, (first, more))

-- ---- one certificate is written

pub certified_ok : (receiver : Receiver) (samples : List Sample) (entry : Entry) (made piece : List ℕ) (before now : SinkState) (r : Result (Unit {0}) Failed) →
    IsCertificateOf receiver samples entry made → piece ≡ made → OnOk r (HasWritten piece before now) → OnOk r (HasCertified receiver samples entry before now)
certified_ok receiver samples entry made piece before now (Err e) h same written = tt
certified_ok receiver samples entry made piece before now (Ok u) h same written = record {
  certificate = h.certificate;
  certifies = h.certifies;
  written = subst (λ l. HasWritten l before now) (same ∙ h.bytes_are) written;
}

pub certified_err : (receiver : Receiver) (samples : List Sample) (entry : Entry) (made piece : List ℕ) (before now : SinkState) (r : Result (Unit {0}) Failed) →
    IsCertificateOf receiver samples entry made → piece ≡ made → OnErr r (HasWrittenFront piece before now) → OnErr r (IsShortOf (length piece) before) →
    OnErr r (HasCertifiedFront receiver samples entry before now)
certified_err receiver samples entry made piece before now (Ok u) h same front full = tt
certified_err receiver samples entry made piece before now (Err e) h same front full = record {
  certificate = h.certificate;
  certifies = h.certifies;
  front = subst (λ l. HasWrittenFront l before now) (same ∙ h.bytes_are) front;
  full = subst (λ l. IsShortOf (length l) before) (same ∙ h.bytes_are) full;
}

-- ---- one after another

-- at first no certificate is written
pub written_none : (receiver : Receiver) (samples : List Sample) (before : SinkState) → HasCertifiedAll receiver samples [] before before
written_none receiver samples before = record { certificates = []; each = tt; written = write_nothing before }

-- the bytes of certificates and one more
bytes_and_one : (cs : List Held) (c : Held) → all_bytes (cs ++ c ∷ []) ≡ all_bytes cs ++ bytes_of c
bytes_and_one cs c = flat_map-append bytes_of cs (c ∷ []) ∙ ap (λ l. all_bytes cs ++ l) (append-nil (bytes_of c))

pub written_more : (receiver : Receiver) (samples : List Sample) (entries : List Entry) (entry : Entry) (before between now : SinkState) →
    HasCertifiedAll receiver samples entries before between → HasCertified receiver samples entry between now → HasCertifiedAll receiver samples (entries ++ entry ∷ []) before now
written_more receiver samples entries entry before between now a h = record {
  certificates = a.certificates ++ h.certificate ∷ [];
  each = zip_append (Certifies receiver samples) entries (entry ∷ []) a.certificates (h.certificate ∷ []) a.each (h.certifies, tt);
  written = subst (λ l. HasWritten l before now) (sym (bytes_and_one a.certificates h.certificate))
      (write_then (all_bytes a.certificates) (bytes_of h.certificate) before between now a.written h.written);
}

-- if a prefix of one certificate is written, a prefix of all is
pub written_some : (receiver : Receiver) (samples : List Sample) (list entries : List Entry) (entry : Entry) (rest : List Entry) (before between now : SinkState) →
    HasSmallValues receiver → IsListFor receiver samples list → list ≡ (entries ++ entry ∷ []) ++ rest → HasCertifiedAll receiver samples entries before between →
    HasCertifiedFront receiver samples entry between now → HasCertifiedSome receiver samples list before now
written_some receiver samples list entries entry rest before between now within explained split a h =
    let (cs, more) = entries_have receiver samples list rest within explained (λ other there. subst (λ l. Contains l other) (sym split) (Contains-append_right (entries ++ entry ∷ []) rest other there)) in
    let first : List ℕ = all_bytes a.certificates in
    let all : List Held = (a.certificates ++ h.certificate ∷ []) ++ cs in
    let zip : AllZip (Certifies receiver samples) list all = subst (λ l. AllZip (Certifies receiver samples) l all) (sym split)
    (zip_append (Certifies receiver samples) (entries ++ entry ∷ []) rest (a.certificates ++ h.certificate ∷ []) cs (zip_append (Certifies receiver samples) entries (entry ∷ []) a.certificates (h.certificate ∷ []) a.each (h.certifies, tt)) more) in
    let joined : all_bytes all ≡ (first ++ bytes_of h.certificate) ++ all_bytes cs =
    flat_map-append bytes_of (a.certificates ++ h.certificate ∷ []) cs ∙ ap (λ l. l ++ all_bytes cs) (bytes_and_one a.certificates h.certificate) in
    let fewer : length first + length (bytes_of h.certificate) ≤ length (all_bytes all) =
    omega (arith, ap length joined, length-append (first ++ bytes_of h.certificate) (all_bytes cs), length-append first (bytes_of h.certificate)) in
    record {
      certificates = all;
      each = zip;
      front = subst (λ l. HasWrittenFront l before now) (sym joined)
          (front_of_longer (first ++ bytes_of h.certificate) (all_bytes cs) before now (front_after first (bytes_of h.certificate) before between now a.written h.front));
      full = short_of_more (length first + length (bytes_of h.certificate)) (length (all_bytes all)) before fewer
          (short_after first (length (bytes_of h.certificate)) before between a.written h.full);
    }

-- the same, by the entry's index
pub written_next : (receiver : Receiver) (samples : List Sample) (list : List Entry) (i : ℕ) (entry : Entry) (before between now : SinkState) →
    i < length list → entry ≡ get_or list i entry → HasCertifiedAll receiver samples (take i list) before between →
    HasCertified receiver samples entry between now → HasCertifiedAll receiver samples (take (i + 1) list) before now
written_next receiver samples list i entry before between now inside is a h =
    let next : take (i + 1) list ≡ take i list ++ entry ∷ [] = rw (add-one i) (take-suc list i entry inside ∙ ap (λ e. take i list ++ e ∷ []) (sym is)) in
    subst (λ l. HasCertifiedAll receiver samples l before now) (sym next) (written_more receiver samples (take i list) entry before between now a h)

pub written_some_at : (receiver : Receiver) (samples : List Sample) (list : List Entry) (i : ℕ) (entry : Entry) (before between now : SinkState) →
    i < length list → entry ≡ get_or list i entry → HasSmallValues receiver → IsListFor receiver samples list → HasCertifiedAll receiver samples (take i list) before between →
    HasCertifiedFront receiver samples entry between now → HasCertifiedSome receiver samples list before now
written_some_at receiver samples list i entry before between now inside is within explained a h =
    let next : take (suc i) list ≡ take i list ++ entry ∷ [] = take-suc list i entry inside ∙ ap (λ e. take i list ++ e ∷ []) (sym is) in
    let split : list ≡ (take i list ++ entry ∷ []) ++ drop (suc i) list = sym (take-append-drop (suc i) list) ∙ ap (λ l. l ++ drop (suc i) list) next in
    written_some receiver samples list (take i list) entry (drop (suc i) list) before between now within explained split a h
