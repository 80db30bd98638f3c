use Rattle.std.proofs.Common.{ℕ, ◌≡◌, length, [], ◌∙◌, arith, take, drop, ◌++◌}
use Rattle.std.proofs.lemmas.List.{get_or_default, get_or-replicate, take_at}
use Rattle.conv_code.proofs.Costs.{word_cost-le}
use Rattle.tail_cert.proofs.Filled.{filled}
use Rattle.tail_cert.proofs.Rows.{rows_fit}
use Rattle.tail_cert.proofs.filling.fill.Goals as goal

pub fill_table-requires : goal.fill_table-requires
fill_table-requires c = record { room = λ y below. let z = get_or-replicate {A = ℕ} 64 y 0 0 below in omega (arith, z) }

pub invariant_of-certificate : goal.invariant_of-certificate
invariant_of-certificate c =
    let h = word_cost-le 2032 c.args.values.now c.least_by-word.result.0 c.requires in
    let e : c.copy_of-copied.result ≡ c.args.values.now = c.copy_of-copied.ensures.same in
    let size : length c.copy_of-copied.result ≡ 40 = rw e c.told-values in
    let made = c.make_tables.new.tables in
    let kept : take made.len (c.fill_tables.new.tables ++ drop (length c.fill_tables.new.tables) made.items) ≡ c.fill_tables.new.tables =
    take_at _ _ _ (c.fill_tables.auto.tables ∙ c.deref_mut.ensures.len) in (
      record {
        places = record {
          count = size;
          all = λ k d inside. record {
            count = rw (get_or_default c.copy_of-copied.result k d [] inside) (c.copy_of-copied.ensures.count k (omega (arith, inside, size)));
            all = rw e (c.requires k d (omega (arith, inside, size, c.told-values)));
          };
        };
        bits = c.least_by-word.ensures.word.size ∙ c.told-values;
        fits = omega (arith, h, c.least_by-word.ensures.cost, c.told-values);
        general_is = rows_fit c.args.values.now _ _ c.fill_table.ensures.size c.fill_table.ensures.rows;
        states = c.states_below-certificate-inside.ensures.states;
        tables_are = rw kept c.fill_tables.ensures.tables;
      },
      c.make_tables.ensures.room,
    )

pub returns-clause-accepted : goal.returns-clause-accepted
returns-clause-accepted c =
    let size = c.fill_tables.auto.tables ∙ c.deref_mut.ensures.len in
    (filled c.args.values.now _ _ _ _ _ _ _ c.copy_of-copied.ensures.same (take_at c.fill_tables.new.tables _ _ size) c.requires c.told-values c.least_by-word.ensures.word c.least_by-word.ensures.cost
    c.fill_table.ensures.rows c.states_below-certificate-inside.ensures.needed c.fill_tables.ensures.bounds).0

pub returns-clause-filled : goal.returns-clause-filled
returns-clause-filled c =
    let size = c.fill_tables.auto.tables ∙ c.deref_mut.ensures.len in
    (filled c.args.values.now _ _ _ _ _ _ _ c.copy_of-copied.ensures.same (take_at c.fill_tables.new.tables _ _ size) c.requires c.told-values c.least_by-word.ensures.word c.least_by-word.ensures.cost
    c.fill_table.ensures.rows c.states_below-certificate-inside.ensures.needed c.fill_tables.ensures.bounds).1
