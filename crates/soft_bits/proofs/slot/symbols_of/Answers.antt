use Rattle.std.proofs.Common.{◌≡◌, arith, refl, rules, List, [], ◌∷◌, length, get_or}
use Rattle.soft_bits.proofs.slot.symbols_of.Goals as goal

-- a list of seven consists of its seven values
seven : {A : Type 0} (xs : List A) (d : A) → length xs ≡ 7 →
    get_or xs 0 d ∷ get_or xs 1 d ∷ get_or xs 2 d ∷ get_or xs 3 d ∷ get_or xs 4 d ∷ get_or xs 5 d ∷ get_or xs 6 d ∷ [] ≡ xs
seven (a ∷ b ∷ c ∷ d ∷ e ∷ f ∷ g ∷ []) x h = refl
seven xs x h = absurd (omega arith)

pub returns : goal.returns
returns c =
    let a = c.new.ensures in
    let b = c.new-2.ensures in
    let d = c.new-3.ensures in
    let e = c.new-4.ensures in
    let f = c.new-5.ensures in
    let g = c.new-6.ensures in
    let h = c.new-7.ensures in
    let whole = seven c.args.seen [] (search rules) in
    cc
