-- Rate-matched bits by stream and position in interleaved order.
use Rattle.std.proofs.Common.{◌≡◌, ℕ, zero, suc, ◌+◌, ◌-◌, ◌*◌, ◌/◌, ◌%◌, ◌<◌, ◌≤◌, ◌++◌, length, get_or, refl, ap, ap₂, sym, ◌∙◌, arith, length-append, div-add-mod', mod-eq_of_lt}
use Rattle.std.proofs.lemmas.Nat.{div-mul-add, mod-mul-add}
use Rattle.std.proofs.lemmas.List.{length-map, get_or-map, get_or-append_right}
use Rattle.std.proofs.Math.ListN.{get_or-append}
use Rattle.std.proofs.Math.Nat.{div-lt_iff_lt-mul}
use Rattle.sub_block.specs.declared.Item.{Item}
use Rattle.sub_block.specs.Items.{item, ReadsEachOnce}
use Rattle.conv_code.specs.Reading.{stream_order, reading, item_of}
use Rattle.conv_code.specs.Laws.{IsPermuting}
use Rattle.conv_code.proofs.Orders.{index_of, IsOrder, is_order}
use Rattle.conv_code.proofs.Streams.{stream_reading, streams_in_order}

abbrev item_in : ℕ → ℕ → ℕ → Item
item_in n p t = item t (get_or (stream_order n) p 0)

length-stream_reading : (n t : ℕ) → IsOrder n → length (stream_reading n t) ≡ n
length-stream_reading n t o = length-map (stream_order n) _ ∙ o.count

length-two : (n : ℕ) → IsOrder n → length (stream_reading n 0 ++ stream_reading n 1) ≡ n + n
length-two n o =
    let a = length-stream_reading n 0 o in
    let b = length-stream_reading n 1 o in
    length-append (stream_reading n 0) (stream_reading n 1) ∙ rw (a, b) refl

length-reading : (n : ℕ) → IsOrder n → length (reading n) ≡ 3 * n
length-reading n o =
    let a = length-two n o in
    let b = length-stream_reading n 2 o in
    ap length (streams_in_order n) ∙ length-append (stream_reading n 0 ++ stream_reading n 1) (stream_reading n 2) ∙ rw (a, b) (omega arith)

in_stream : (n t p : ℕ) → IsOrder n → p < n → get_or (stream_reading n t) p (item 0 0) ≡ item_in n p t
in_stream n t p o below = get_or-map (item t) (stream_order n) p 0 (item 0 0) (let e = o.count in omega (arith, e))

streams_at : (n t p : ℕ) → IsOrder n → p < n → t < 3 →
    get_or (stream_reading n 0 ++ stream_reading n 1 ++ stream_reading n 2) (t * n + p) (item 0 0) ≡ item_in n p t
streams_at n zero p o below h =
    let e : 0 * n + p ≡ p = omega arith in
    let two = length-two n o in
    let one = length-stream_reading n 0 o in
    rw e (get_or-append (stream_reading n 0 ++ stream_reading n 1) (stream_reading n 2) (item 0 0) p (omega (arith, two))
    ∙ get_or-append (stream_reading n 0) (stream_reading n 1) (item 0 0) p (omega (arith, one)) ∙ in_stream n 0 p o below)
streams_at n (suc zero) p o below h =
    let e : 1 * n + p ≡ n + p = omega arith in
    let e' : n + p - n ≡ p = omega arith in
    let two = length-two n o in
    let one = length-stream_reading n 0 o in
    rw e (get_or-append (stream_reading n 0 ++ stream_reading n 1) (stream_reading n 2) (item 0 0) (n + p) (omega (arith, two))
    ∙ get_or-append_right (stream_reading n 0) (stream_reading n 1) n (n + p) (item 0 0) one (omega arith) ∙ rw e' (in_stream n 1 p o below))
streams_at n (suc (suc zero)) p o below h =
    let e' : 2 * n + p - (n + n) ≡ p = omega arith in
    let two = length-two n o in
    get_or-append_right (stream_reading n 0 ++ stream_reading n 1) (stream_reading n 2) (n + n) (2 * n + p) (item 0 0) two (omega arith)
    ∙ rw e' (in_stream n 2 p o below)
streams_at n (suc (suc (suc t))) p o below h = absurd (omega arith)

reading_at : (n t p : ℕ) → IsOrder n → p < n → t < 3 → get_or (reading n) (t * n + p) (item 0 0) ≡ item_in n p t
reading_at n t p o below h = ap (λ bits. get_or bits (t * n + p) (item 0 0)) (streams_in_order n) ∙ streams_at n t p o below h

three : (n q : ℕ) → 0 < n → q < 3 * n → q / n < 3
three n q some h = (div-lt_iff_lt-mul some).1 h

-- a rate-matched bit, by its stream and its position there
item_of-stream : (n i : ℕ) → 0 < n → n ≤ 64 → item_of n i ≡ item_in n (i % (3 * n) % n) (i % (3 * n) / n)
unfolding item_of
item_of-stream n i some short =
    let o = is_order n in
    let q : ℕ = i % (3 * n) in
    let below : q % n < n = omega arith in
    let e : q / n * n + q % n ≡ q = omega arith in
    let h : q < 3 * n = omega arith in
    ap (λ j. get_or (reading n) j (item 0 0)) (sym e) ∙ reading_at n (q / n) (q % n) o below (three n q some h)

-- ---- each coded bit once

spread : (n t p : ℕ) → 0 < n → p < n → ((t * n + p) / n ≡ t) × ((t * n + p) % n ≡ p)
spread n t p some below = (div-mul-add t n p below, mod-mul-add t n p below)

each_once : (n : ℕ) → 6 ≤ n → n ≤ 64 → ReadsEachOnce n (item_of n)
each_once n long short =
    let o = is_order n in
    let some : 0 < n = omega arith in
    record {
      inside = λ i.
          let at = item_of-stream n i some short in
          let below : i % (3 * n) % n < n = omega arith in
          let t = three n (i % (3 * n)) some (omega arith) in
          (rw at t, rw at (o.inside (i % (3 * n) % n) below));
      once = λ i j hi hj same.
          let ei : i % (3 * n) ≡ i = mod-eq_of_lt hi in
          let ej : j % (3 * n) ≡ j = mod-eq_of_lt hj in
          let at_i = rw ei at (item_of-stream n i some short) in
          let at_j = rw ej at (item_of-stream n j some short) in
          let both = sym at_i ∙ same ∙ at_j in
          let streams : i / n ≡ j / n = ap (λ (p : Item). p.stream) both in
          let indices : get_or (stream_order n) (i % n) 0 ≡ get_or (stream_order n) (j % n) 0 = ap (λ (p : Item). p.index) both in
          let below_i : i % n < n = omega arith in
          let below_j : j % n < n = omega arith in
          let rest : i % n ≡ j % n = sym (o.once (i % n) below_i) ∙ ap (λ k. index_of k (stream_order n)) indices ∙ o.once (j % n) below_j in
          sym (div-add-mod' i n) ∙ ap₂ (λ (t p : ℕ). t * n + p) streams rest ∙ div-add-mod' j n;
      each = λ t p stream below.
          let q = index_of p (stream_order n) in
          let q_below = o.index_inside p below in
          let i = t * n + q in
          let parts = spread n t q some q_below in
          let top : t * n + q < 3 * n = item_top n t q stream q_below in
          let e : i % (3 * n) ≡ i = mod-eq_of_lt top in
          let at = rw (e, parts.0, parts.1) at (item_of-stream n i some short) in
          (i, top, at ∙ ap (item t) (o.each p below));
    }
  where
    item_top : (n t q : ℕ) → t < 3 → q < n → t * n + q < 3 * n
    item_top n zero q h k = omega arith
    item_top n (suc zero) q h k = omega arith
    item_top n (suc (suc zero)) q h k = omega arith
    item_top n (suc (suc (suc t))) q h k = absurd (omega arith)

pub permuting : IsPermuting
permuting n long short = record { count = length-reading n (is_order n); reads = each_once n long short }

-- the index is found in the interleaved order
pub item_is : (n i : ℕ) → 6 ≤ n → n ≤ 64 → item_of n i ≡ item (i % (3 * n) / n) (get_or (stream_order n) (i % (3 * n) % n) 0)
item_is n i some short = item_of-stream n i (omega arith) short
