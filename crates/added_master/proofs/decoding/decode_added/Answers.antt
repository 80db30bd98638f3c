use Rattle.std.proofs.Common.{◌≡◌, ◌∙◌, Bool, true, false, IsTrue, arith}
use Rattle.added_master.proofs.Decoded.{refused}
use Rattle.added_master.proofs.decoding.decode_added.Goals as goal

not_both : (b : Bool) → b ≡ false → IsTrue b → ⊥
not_both true e h = clash e
  where
    clash : true ≡ false → ⊥
    clash x = search arith
not_both false e h = clash h
  where
    clash : false ≡ true → ⊥
    clash x = search arith

pub returns-then-matches-lt-LEAST_MATCHES : goal.returns-then-matches-lt-LEAST_MATCHES
returns-then-matches-lt-LEAST_MATCHES c =
    refused c.args.sums.now _ c.args.ports c.args.phase c.args.upper _ c.least-word.ensures.word c.count_matches-matches.ensures.value
    (λ enough check number width. let few = c.if-matches-lt-LEAST_MATCHES.true in absurd (omega (arith, enough, few)))

pub returns-then-not-passes : goal.returns-then-not-passes
returns-then-not-passes c =
    refused c.args.sums.now _ c.args.ports c.args.phase c.args.upper _ c.least-word.ensures.word c.count_matches-matches.ensures.value
    (λ enough check number width. not_both c.passes.result c.if-not-passes.true (c.passes.ensures.1 check))

pub returns-then-field-upper : goal.returns-then-field-upper
returns-then-field-upper c =
    refused c.args.sums.now _ c.args.ports c.args.phase c.args.upper _ c.least-word.ensures.word c.count_matches-matches.ensures.value
    (λ enough check number width. absurd (c.if-field-upper.true (c.field.ensures.value ∙ number)))

pub returns-in_err-mib : goal.returns-in_err-mib
returns-in_err-mib c =
    rw c.from_residual.ensures
    (refused c.args.sums.now _ c.args.ports c.args.phase c.args.upper _ c.least-word.ensures.word c.count_matches-matches.ensures.value
    (λ enough check number width. let wide = c.in_err-mib.ensures in absurd (omega (arith, wide, width))))
