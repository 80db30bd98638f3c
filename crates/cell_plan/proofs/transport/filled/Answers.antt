use Rattle.std.proofs.Common.{◌≡◌, ℕ, ◌+◌, ◌-◌, ◌≤◌, Bool, false, List, ◌++◌, length, take, drop, replicate, ap, sym, ◌∙◌, append_assoc, arith}
use Rattle.std.proofs.lemmas.List.{take_at, drop-replicate, replicate-append-replicate, length-append, length-replicate}
use Rattle.cell_plan.specs.Transport.{filled}
use Rattle.cell_plan.proofs.transport.filled.Goals as goal

zeros_behind : (text : List Bool) (size : ℕ) → length text ≤ size → size ≤ 1024 → take size (text ++ drop (length text) (replicate 1024 false)) ≡ filled size text
zeros_behind text size enough room =
    ap (take size) (ap (λ (bits : List Bool). text ++ bits) parts ∙ sym (append_assoc text (zeros (size - length text)) (zeros (1024 - size))))
    ∙ take_at (filled size text) (zeros (1024 - size)) size whole
  where
    zeros : ℕ → List Bool
    zeros n = replicate n false

    lengths : 1024 - length text ≡ (size - length text) + (1024 - size)
    lengths = omega (arith, enough, room)

    parts : drop (length text) (zeros 1024) ≡ zeros (size - length text) ++ zeros (1024 - size)
    parts = drop-replicate (length text) 1024 false ∙ ap zeros lengths ∙ sym (replicate-append-replicate (size - length text) (1024 - size) false)

    whole : length (filled size text) ≡ size
    whole = let e = length-append text (zeros (size - length text)) in let z = length-replicate (size - length text) false in omega (arith, e, z, enough)

pub returns : goal.returns
returns c size enough room = ap (take size) c.put_text.ensures ∙ zeros_behind c.args.text.now size enough room
