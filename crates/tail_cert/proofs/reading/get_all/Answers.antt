use Rattle.std.proofs.Common.{◌≡◌, length, take, drop, ◌++◌, sym, refl, ◌∙◌, arith}
use Rattle.std.proofs.lemmas.List.{take_at}
use Rattle.tail_cert.specs.Form.{bytes_of}
use Rattle.tail_cert.proofs.Breaks.{count_by_set, count_least, long_enough, small_values, mark_there, seven_parts}
use Rattle.tail_cert.proofs.Shown.{stored_whole}
use Rattle.tail_cert.proofs.reading.get_all.Goals as goal

pub get_values-requires-clause-room : goal.get_values-requires-clause-room
get_values-requires-clause-room c = omega (arith, long_enough _ c.args.bytes.now c.requires.unbroken, count_least c.args.bytes.now)

pub get_values-requires-clause-magnitudes : goal.get_values-requires-clause-magnitudes
get_values-requires-clause-magnitudes c = small_values _ c.args.bytes.now c.requires.unbroken (get_values-requires-clause-room c)

pub get_word-into-inside-requires : goal.get_word-into-inside-requires
get_word-into-inside-requires c = omega (arith, long_enough _ c.args.bytes.now c.requires.unbroken, count_least c.args.bytes.now)

pub get_entry-into-inside-requires : goal.get_entry-into-inside-requires
get_entry-into-inside-requires c = omega (arith, long_enough _ c.args.bytes.now c.requires.unbroken, count_least c.args.bytes.now)

pub get_table-requires : goal.get_table-requires
get_table-requires c = omega (arith, long_enough _ c.args.bytes.now c.requires.unbroken, count_least c.args.bytes.now)

pub get_set-into-inside-requires : goal.get_set-into-inside-requires
get_set-into-inside-requires c = omega (arith, long_enough _ c.args.bytes.now c.requires.unbroken, count_least c.args.bytes.now)

pub get_tables-requires-clause-size : goal.get_tables-requires-clause-size
get_tables-requires-clause-size c =
    let count = count_by_set c.args.bytes.now c.get_set-into-inside.result c.get_set-into-inside.ensures.states in
    omega (arith, count, long_enough _ c.args.bytes.now c.requires.unbroken, c.requires.size)

pub invariant_of-into : goal.invariant_of-into
invariant_of-into c =
    let made = c.make_tables.new.tables in
    let kept : take made.len (c.get_tables.new.tables ++ drop (length c.get_tables.new.tables) made.items) ≡ c.get_tables.new.tables =
    take_at _ _ _ (c.get_tables.auto.tables ∙ c.deref_mut.ensures.len) in (
      record {
        places = c.get_values.ensures.places;
        bits = c.get_word-into-inside.ensures.size;
        fits = c.get_entry-into-inside.type_inv;
        general_is = c.get_table.ensures.table;
        states = c.get_set-into-inside.ensures.size;
        tables_are = rw kept c.get_tables.ensures.tables;
      },
      c.make_tables.ensures.room,
    )

pub returns-clause-bytes : goal.returns-clause-bytes
unfolding bytes_of
returns-clause-bytes c =
    let made = c.make_tables.new.tables in
    let kept : take made.len (c.get_tables.new.tables ++ drop (length c.get_tables.new.tables) made.items) ≡ c.get_tables.new.tables =
    take_at _ _ _ (c.get_tables.auto.tables ∙ c.deref_mut.ensures.len) in
    let total = rw (mark_there _ c.args.bytes.now c.requires.unbroken (omega (arith, long_enough _ c.args.bytes.now c.requires.unbroken, count_least c.args.bytes.now))) at (seven_parts c.args.bytes.now 4 240 5 4 10240 8) in
    rw (
      kept,
      c.get_values.ensures.bytes,
      c.get_word-into-inside.ensures.bytes,
      c.get_entry-into-inside.ensures,
      c.get_table.ensures.bytes,
      c.get_set-into-inside.ensures.bytes c.get_tables.new.tables,
      c.get_tables.ensures.bytes,
    ) (sym total)

pub returns-clause-whole : goal.returns-clause-whole
returns-clause-whole c = stored_whole _ _ _ (invariant_of-into c).0 refl
