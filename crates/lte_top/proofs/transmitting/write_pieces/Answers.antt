use Rattle.std.proofs.Common.{◌≡◌, ◌<◌, ℕ, List, ◌++◌, drop, length, refl, sym, ap, ap₂, ◌∙◌, arith}
use Rattle.std.proofs.lemmas.Bool.{ltb-true, ltb-false}
use Rattle.std.proofs.lemmas.List.{drop_all}
use Rattle.std.proofs.lemmas.Result.{on_ok_weaker, on_err_weaker}
use Rattle.cs_num.specs.declared.Sample.{Sample}
use Rattle.sample_file.specs.Recording.{bytes_of}
use Rattle.sample_file.proofs.Waiting.{waiting_all, waiting_then, pieces_on, pieces_front, pieces_short, pieces_whole, last_front, last_short, none_left}
use Rattle.cell_tx.specs.Emitting.{Progress, piece_end, piece_of}
use Rattle.cell_tx.proofs.Advancing.{rest_is}
use Rattle.lte_top.proofs.transmitting.write_pieces.Goals as goal

-- before a piece, the remaining samples are the piece and the samples after it
left_is : (p q : Progress) (piece : List Sample) → q.samples ≡ p.samples → q.from ≡ p.at → q.at ≡ piece_end p → piece ≡ piece_of q → p.at < length p.samples
    → drop p.at p.samples ≡ piece ++ drop q.at q.samples
left_is p q piece samples from ends is below =
    rest_is p q samples from ends below ∙ ap₂ (λ (a b : List Sample). a ++ b) (sym is) (ap (drop q.at) (sym samples))

-- the buffered bytes and the remaining samples' bytes stay the same when a piece is moved to the buffer
waiting_is : (waiting : List ℕ) (p q : Progress) (piece : List Sample) → q.samples ≡ p.samples → q.from ≡ p.at → q.at ≡ piece_end p → piece ≡ piece_of q
    → p.at < length p.samples → waiting ++ bytes_of (drop p.at p.samples) ≡ (waiting ++ bytes_of piece) ++ bytes_of (drop q.at q.samples)
waiting_is waiting p q piece samples from ends is below =
    waiting_then waiting (drop p.at p.samples) piece (drop q.at q.samples) (left_is p q piece samples from ends is below)

pub loop-writer-init : goal.loop-writer-init
loop-writer-init g c =
    record {
      samples = refl;
      so_far = rw (c.new-writer.ensures, c.requires) (waiting_all (bytes_of c.args.emitter.now.samples) (g.K.Sink.state c.args.sink.now));
      later = omega arith;
    }

pub loop-writer-preserved : goal.loop-writer-preserved
loop-writer-preserved g c =
    let p = c.loop-writer.emitter in
    let q = c.advance.new.self in
    let a = c.advance.ensures in
    let i = c.loop-writer.invariant in
    let below = ltb-true p.at (length p.samples) (sym a.more ∙ c.loop-writer-test.true) in
    record {
      samples = a.samples ∙ i.samples;
      so_far = pieces_on _ _ _ _ _ _ _ _ i.so_far (waiting_is c.loop-writer.writer p q _ a.samples a.from a.at c.piece.ensures below) c.in-Ok.ensures.ok;
      later = omega (arith, i.later, c.push.ensures.never_falls);
    }

pub returns-in-Err-clause-front : goal.returns-in-Err-clause-front
returns-in-Err-clause-front g c =
    let p = c.loop-writer.emitter in
    let q = c.advance.new.self in
    let a = c.advance.ensures in
    let below = ltb-true p.at (length p.samples) (sym a.more ∙ c.loop-writer-test.true) in
    pieces_front _ _ _ _ _ _ _ c.loop-writer.invariant.so_far (waiting_is c.loop-writer.writer p q _ a.samples a.from a.at c.piece.ensures below) c.in-Err.ensures.front

pub returns-in-Err-clause-full : goal.returns-in-Err-clause-full
returns-in-Err-clause-full g c =
    let p = c.loop-writer.emitter in
    let q = c.advance.new.self in
    let a = c.advance.ensures in
    let below = ltb-true p.at (length p.samples) (sym a.more ∙ c.loop-writer-test.true) in
    pieces_short _ _ _ _ _ _ c.loop-writer.invariant.so_far (waiting_is c.loop-writer.writer p q _ a.samples a.from a.at c.piece.ensures below) c.in-Err.ensures.full

pub returns-clause-ok : goal.returns-clause-ok
returns-clause-ok g c =
    let p = c.loop-writer.emitter in
    let none = drop_all p.at p.samples (ltb-false p.at (length p.samples) (sym c.advance.ensures.more ∙ c.loop-writer-test.false)) in
    let w = none_left _ _ _ _ _ none c.loop-writer.invariant.so_far in
    on_ok_weaker c.finish.result (λ e. pieces_whole _ _ _ _ _ w e) c.finish.ensures.ok

pub returns-clause-front : goal.returns-clause-front
returns-clause-front g c =
    let p = c.loop-writer.emitter in
    let none = drop_all p.at p.samples (ltb-false p.at (length p.samples) (sym c.advance.ensures.more ∙ c.loop-writer-test.false)) in
    let w = none_left _ _ _ _ _ none c.loop-writer.invariant.so_far in
    on_err_weaker c.finish.result (λ e. last_front _ _ _ _ _ w e) c.finish.ensures.front

pub returns-clause-full : goal.returns-clause-full
returns-clause-full g c =
    let p = c.loop-writer.emitter in
    let none = drop_all p.at p.samples (ltb-false p.at (length p.samples) (sym c.advance.ensures.more ∙ c.loop-writer-test.false)) in
    let w = none_left _ _ _ _ _ none c.loop-writer.invariant.so_far in
    on_err_weaker c.finish.result (λ e. last_short _ _ _ _ w e) c.finish.ensures.full
