-- Samples of the three primary signals, computed once: useful parts of symbols with roots 25, 29 and 34. (TS 36.211
-- sections 6.11.1 and 6.12)
use Rattle.std.proofs.Common.{◌≡◌, ℕ, zero, suc, ◌<◌, Bool, true, List, [], ◌∷◌, ℤ, pos, negsuc, get_or, refl}
use Rattle.finite.specs.Sums.{sum_below}
use Rattle.finite.specs.Tests.{every_below}
use Rattle.finite.proofs.Tests.{every_below_at}
use Rattle.cs_num.specs.declared.Cpx.{Cpx}
use Rattle.cs_num.proofs.Tested.{is_same, is_same_tells}
use Rattle.fold128.specs.Tables.{quarter, cosine, w_at, z_real, z_imaginary, z_at}
use Rattle.fold128.specs.Symbol.{useful_at}
use Rattle.sync_seq.specs.Primary.{pss_at}
use Rattle.pss_search.specs.Correlation.{wave}

unfoldable pub re_25 : List ℤ
re_25 =
    pos 104 ∷ pos 27 ∷ negsuc 98 ∷ negsuc 111 ∷ negsuc 2 ∷ pos 101 ∷ pos 111 ∷ pos 49 ∷ negsuc 28 ∷ negsuc 88 ∷
    negsuc 119 ∷ negsuc 125 ∷ negsuc 130 ∷ negsuc 140 ∷ negsuc 136 ∷ negsuc 115 ∷ negsuc 103 ∷ negsuc 84 ∷ negsuc 8 ∷
    pos 105 ∷ pos 135 ∷ pos 30 ∷ negsuc 84 ∷ negsuc 74 ∷ pos 6 ∷ pos 20 ∷ negsuc 25 ∷ negsuc 11 ∷ pos 58 ∷ pos 44 ∷
    negsuc 79 ∷ negsuc 153 ∷ negsuc 68 ∷ pos 69 ∷ pos 122 ∷ pos 102 ∷ pos 97 ∷ pos 114 ∷ pos 107 ∷ pos 90 ∷ pos 98 ∷
    pos 119 ∷ pos 119 ∷ pos 94 ∷ pos 36 ∷ negsuc 65 ∷ negsuc 144 ∷ negsuc 92 ∷ pos 53 ∷ pos 102 ∷ negsuc 13 ∷
    negsuc 101 ∷ negsuc 9 ∷ pos 104 ∷ pos 24 ∷ negsuc 150 ∷ negsuc 138 ∷ pos 66 ∷ pos 185 ∷ pos 102 ∷ pos 3 ∷ pos 26 ∷
    pos 47 ∷ negsuc 39 ∷ negsuc 106 ∷ negsuc 39 ∷ pos 47 ∷ pos 26 ∷ pos 3 ∷ pos 102 ∷ pos 185 ∷ pos 66 ∷ negsuc 138 ∷
    negsuc 150 ∷ pos 24 ∷ pos 104 ∷ negsuc 9 ∷ negsuc 101 ∷ negsuc 13 ∷ pos 102 ∷ pos 53 ∷ negsuc 92 ∷ negsuc 144 ∷
    negsuc 65 ∷ pos 36 ∷ pos 94 ∷ pos 119 ∷ pos 119 ∷ pos 98 ∷ pos 90 ∷ pos 107 ∷ pos 114 ∷ pos 97 ∷ pos 102 ∷ pos 122 ∷
    pos 69 ∷ negsuc 68 ∷ negsuc 153 ∷ negsuc 79 ∷ pos 44 ∷ pos 58 ∷ negsuc 11 ∷ negsuc 25 ∷ pos 20 ∷ pos 6 ∷ negsuc 74 ∷
    negsuc 84 ∷ pos 30 ∷ pos 135 ∷ pos 105 ∷ negsuc 8 ∷ negsuc 84 ∷ negsuc 103 ∷ negsuc 115 ∷ negsuc 136 ∷ negsuc 140 ∷
    negsuc 130 ∷ negsuc 125 ∷ negsuc 119 ∷ negsuc 88 ∷ negsuc 28 ∷ pos 49 ∷ pos 111 ∷ pos 101 ∷ negsuc 2 ∷ negsuc 111 ∷
    negsuc 98 ∷ pos 27 ∷ []

unfoldable pub im_25 : List ℤ
im_25 =
    negsuc 71 ∷ negsuc 6 ∷ pos 69 ∷ pos 1 ∷ negsuc 133 ∷ negsuc 131 ∷ pos 21 ∷ pos 140 ∷ pos 117 ∷ pos 48 ∷ pos 35 ∷
    pos 41 ∷ pos 0 ∷ negsuc 40 ∷ negsuc 11 ∷ pos 49 ∷ pos 70 ∷ pos 70 ∷ pos 100 ∷ pos 104 ∷ pos 1 ∷ negsuc 140 ∷
    negsuc 144 ∷ pos 8 ∷ pos 117 ∷ pos 37 ∷ negsuc 110 ∷ negsuc 115 ∷ pos 26 ∷ pos 122 ∷ pos 56 ∷ negsuc 80 ∷
    negsuc 144 ∷ negsuc 118 ∷ negsuc 69 ∷ negsuc 30 ∷ pos 13 ∷ pos 54 ∷ pos 67 ∷ pos 52 ∷ pos 36 ∷ pos 18 ∷ negsuc 25 ∷
    negsuc 95 ∷ negsuc 143 ∷ negsuc 121 ∷ negsuc 33 ∷ pos 58 ∷ pos 82 ∷ pos 16 ∷ negsuc 76 ∷ negsuc 96 ∷ negsuc 19 ∷
    pos 71 ∷ pos 69 ∷ negsuc 26 ∷ negsuc 120 ∷ negsuc 125 ∷ negsuc 52 ∷ pos 32 ∷ pos 86 ∷ pos 109 ∷ pos 112 ∷ pos 108 ∷
    pos 105 ∷ pos 108 ∷ pos 112 ∷ pos 109 ∷ pos 86 ∷ pos 32 ∷ negsuc 52 ∷ negsuc 125 ∷ negsuc 120 ∷ negsuc 26 ∷ pos 69 ∷
    pos 71 ∷ negsuc 19 ∷ negsuc 96 ∷ negsuc 76 ∷ pos 16 ∷ pos 82 ∷ pos 58 ∷ negsuc 33 ∷ negsuc 121 ∷ negsuc 143 ∷
    negsuc 95 ∷ negsuc 25 ∷ pos 18 ∷ pos 36 ∷ pos 52 ∷ pos 67 ∷ pos 54 ∷ pos 13 ∷ negsuc 30 ∷ negsuc 69 ∷ negsuc 118 ∷
    negsuc 144 ∷ negsuc 80 ∷ pos 56 ∷ pos 122 ∷ pos 26 ∷ negsuc 115 ∷ negsuc 110 ∷ pos 37 ∷ pos 117 ∷ pos 8 ∷
    negsuc 144 ∷ negsuc 140 ∷ pos 1 ∷ pos 104 ∷ pos 100 ∷ pos 70 ∷ pos 70 ∷ pos 49 ∷ negsuc 11 ∷ negsuc 40 ∷ pos 0 ∷
    pos 41 ∷ pos 35 ∷ pos 48 ∷ pos 117 ∷ pos 140 ∷ pos 21 ∷ negsuc 131 ∷ negsuc 133 ∷ pos 1 ∷ pos 69 ∷ negsuc 6 ∷ []

unfoldable pub re_29 : List ℤ
re_29 =
    negsuc 108 ∷ negsuc 50 ∷ pos 63 ∷ pos 133 ∷ pos 133 ∷ pos 120 ∷ pos 131 ∷ pos 120 ∷ pos 44 ∷ negsuc 46 ∷ negsuc 72 ∷
    negsuc 42 ∷ negsuc 20 ∷ pos 1 ∷ pos 75 ∷ pos 149 ∷ pos 101 ∷ negsuc 49 ∷ negsuc 118 ∷ negsuc 18 ∷ pos 95 ∷ pos 55 ∷
    negsuc 78 ∷ negsuc 137 ∷ negsuc 112 ∷ negsuc 109 ∷ negsuc 127 ∷ negsuc 79 ∷ pos 15 ∷ pos 38 ∷ negsuc 9 ∷ pos 0 ∷
    pos 92 ∷ pos 147 ∷ pos 118 ∷ pos 101 ∷ pos 132 ∷ pos 110 ∷ pos 5 ∷ negsuc 46 ∷ pos 24 ∷ pos 77 ∷ negsuc 12 ∷
    negsuc 143 ∷ negsuc 160 ∷ negsuc 101 ∷ negsuc 79 ∷ negsuc 55 ∷ pos 53 ∷ pos 140 ∷ pos 43 ∷ negsuc 145 ∷ negsuc 170 ∷
    negsuc 10 ∷ pos 74 ∷ negsuc 41 ∷ negsuc 163 ∷ negsuc 98 ∷ pos 48 ∷ pos 67 ∷ negsuc 38 ∷ negsuc 105 ∷ negsuc 56 ∷
    pos 32 ∷ pos 73 ∷ pos 32 ∷ negsuc 56 ∷ negsuc 105 ∷ negsuc 38 ∷ pos 67 ∷ pos 48 ∷ negsuc 98 ∷ negsuc 163 ∷
    negsuc 41 ∷ pos 74 ∷ negsuc 10 ∷ negsuc 170 ∷ negsuc 145 ∷ pos 43 ∷ pos 140 ∷ pos 53 ∷ negsuc 55 ∷ negsuc 79 ∷
    negsuc 101 ∷ negsuc 160 ∷ negsuc 143 ∷ negsuc 12 ∷ pos 77 ∷ pos 24 ∷ negsuc 46 ∷ pos 5 ∷ pos 110 ∷ pos 132 ∷
    pos 101 ∷ pos 118 ∷ pos 147 ∷ pos 92 ∷ pos 0 ∷ negsuc 9 ∷ pos 38 ∷ pos 15 ∷ negsuc 79 ∷ negsuc 127 ∷ negsuc 109 ∷
    negsuc 112 ∷ negsuc 137 ∷ negsuc 78 ∷ pos 55 ∷ pos 95 ∷ negsuc 18 ∷ negsuc 118 ∷ negsuc 49 ∷ pos 101 ∷ pos 149 ∷
    pos 75 ∷ pos 1 ∷ negsuc 20 ∷ negsuc 42 ∷ negsuc 72 ∷ negsuc 46 ∷ pos 44 ∷ pos 120 ∷ pos 131 ∷ pos 120 ∷ pos 133 ∷
    pos 133 ∷ pos 63 ∷ negsuc 50 ∷ []

unfoldable pub im_29 : List ℤ
im_29 =
    pos 68 ∷ pos 6 ∷ negsuc 93 ∷ negsuc 90 ∷ pos 22 ∷ pos 100 ∷ pos 30 ∷ negsuc 101 ∷ negsuc 118 ∷ pos 7 ∷ pos 112 ∷
    pos 57 ∷ negsuc 86 ∷ negsuc 146 ∷ negsuc 89 ∷ negsuc 41 ∷ negsuc 80 ∷ negsuc 123 ∷ negsuc 72 ∷ pos 35 ∷ pos 96 ∷
    pos 86 ∷ pos 62 ∷ pos 36 ∷ negsuc 18 ∷ negsuc 68 ∷ negsuc 28 ∷ pos 93 ∷ pos 158 ∷ pos 72 ∷ negsuc 70 ∷ negsuc 111 ∷
    negsuc 25 ∷ pos 73 ∷ pos 104 ∷ pos 88 ∷ pos 52 ∷ negsuc 15 ∷ negsuc 90 ∷ negsuc 83 ∷ pos 37 ∷ pos 154 ∷ pos 139 ∷
    pos 29 ∷ negsuc 20 ∷ pos 46 ∷ pos 120 ∷ pos 101 ∷ pos 35 ∷ pos 21 ∷ pos 55 ∷ pos 46 ∷ negsuc 32 ∷ negsuc 111 ∷
    negsuc 128 ∷ negsuc 104 ∷ negsuc 70 ∷ negsuc 11 ∷ pos 75 ∷ pos 122 ∷ pos 68 ∷ negsuc 48 ∷ negsuc 118 ∷ negsuc 108 ∷
    negsuc 86 ∷ negsuc 108 ∷ negsuc 118 ∷ negsuc 48 ∷ pos 68 ∷ pos 122 ∷ pos 75 ∷ negsuc 11 ∷ negsuc 70 ∷ negsuc 104 ∷
    negsuc 128 ∷ negsuc 111 ∷ negsuc 32 ∷ pos 46 ∷ pos 55 ∷ pos 21 ∷ pos 35 ∷ pos 101 ∷ pos 120 ∷ pos 46 ∷ negsuc 20 ∷
    pos 29 ∷ pos 139 ∷ pos 154 ∷ pos 37 ∷ negsuc 83 ∷ negsuc 90 ∷ negsuc 15 ∷ pos 52 ∷ pos 88 ∷ pos 104 ∷ pos 73 ∷
    negsuc 25 ∷ negsuc 111 ∷ negsuc 70 ∷ pos 72 ∷ pos 158 ∷ pos 93 ∷ negsuc 28 ∷ negsuc 68 ∷ negsuc 18 ∷ pos 36 ∷
    pos 62 ∷ pos 86 ∷ pos 96 ∷ pos 35 ∷ negsuc 72 ∷ negsuc 123 ∷ negsuc 80 ∷ negsuc 41 ∷ negsuc 89 ∷ negsuc 146 ∷
    negsuc 86 ∷ pos 57 ∷ pos 112 ∷ pos 7 ∷ negsuc 118 ∷ negsuc 101 ∷ pos 30 ∷ pos 100 ∷ pos 22 ∷ negsuc 90 ∷ negsuc 93 ∷
    pos 6 ∷ []

unfoldable pub re_34 : List ℤ
re_34 =
    negsuc 108 ∷ negsuc 50 ∷ pos 63 ∷ pos 133 ∷ pos 133 ∷ pos 120 ∷ pos 131 ∷ pos 120 ∷ pos 44 ∷ negsuc 46 ∷ negsuc 72 ∷
    negsuc 42 ∷ negsuc 20 ∷ pos 1 ∷ pos 75 ∷ pos 149 ∷ pos 101 ∷ negsuc 49 ∷ negsuc 118 ∷ negsuc 18 ∷ pos 95 ∷ pos 55 ∷
    negsuc 78 ∷ negsuc 137 ∷ negsuc 112 ∷ negsuc 109 ∷ negsuc 127 ∷ negsuc 79 ∷ pos 15 ∷ pos 38 ∷ negsuc 9 ∷ pos 0 ∷
    pos 92 ∷ pos 147 ∷ pos 118 ∷ pos 101 ∷ pos 132 ∷ pos 110 ∷ pos 5 ∷ negsuc 46 ∷ pos 24 ∷ pos 77 ∷ negsuc 12 ∷
    negsuc 143 ∷ negsuc 160 ∷ negsuc 101 ∷ negsuc 79 ∷ negsuc 55 ∷ pos 53 ∷ pos 140 ∷ pos 43 ∷ negsuc 145 ∷ negsuc 170 ∷
    negsuc 10 ∷ pos 74 ∷ negsuc 41 ∷ negsuc 163 ∷ negsuc 98 ∷ pos 48 ∷ pos 67 ∷ negsuc 38 ∷ negsuc 105 ∷ negsuc 56 ∷
    pos 32 ∷ pos 73 ∷ pos 32 ∷ negsuc 56 ∷ negsuc 105 ∷ negsuc 38 ∷ pos 67 ∷ pos 48 ∷ negsuc 98 ∷ negsuc 163 ∷
    negsuc 41 ∷ pos 74 ∷ negsuc 10 ∷ negsuc 170 ∷ negsuc 145 ∷ pos 43 ∷ pos 140 ∷ pos 53 ∷ negsuc 55 ∷ negsuc 79 ∷
    negsuc 101 ∷ negsuc 160 ∷ negsuc 143 ∷ negsuc 12 ∷ pos 77 ∷ pos 24 ∷ negsuc 46 ∷ pos 5 ∷ pos 110 ∷ pos 132 ∷
    pos 101 ∷ pos 118 ∷ pos 147 ∷ pos 92 ∷ pos 0 ∷ negsuc 9 ∷ pos 38 ∷ pos 15 ∷ negsuc 79 ∷ negsuc 127 ∷ negsuc 109 ∷
    negsuc 112 ∷ negsuc 137 ∷ negsuc 78 ∷ pos 55 ∷ pos 95 ∷ negsuc 18 ∷ negsuc 118 ∷ negsuc 49 ∷ pos 101 ∷ pos 149 ∷
    pos 75 ∷ pos 1 ∷ negsuc 20 ∷ negsuc 42 ∷ negsuc 72 ∷ negsuc 46 ∷ pos 44 ∷ pos 120 ∷ pos 131 ∷ pos 120 ∷ pos 133 ∷
    pos 133 ∷ pos 63 ∷ negsuc 50 ∷ []

unfoldable pub im_34 : List ℤ
im_34 =
    negsuc 66 ∷ negsuc 5 ∷ pos 94 ∷ pos 91 ∷ negsuc 21 ∷ negsuc 99 ∷ negsuc 29 ∷ pos 102 ∷ pos 119 ∷ negsuc 6 ∷
    negsuc 111 ∷ negsuc 56 ∷ pos 87 ∷ pos 147 ∷ pos 90 ∷ pos 42 ∷ pos 81 ∷ pos 124 ∷ pos 73 ∷ negsuc 34 ∷ negsuc 95 ∷
    negsuc 85 ∷ negsuc 61 ∷ negsuc 35 ∷ pos 19 ∷ pos 69 ∷ pos 29 ∷ negsuc 92 ∷ negsuc 157 ∷ negsuc 71 ∷ pos 71 ∷
    pos 112 ∷ pos 26 ∷ negsuc 72 ∷ negsuc 103 ∷ negsuc 87 ∷ negsuc 51 ∷ pos 16 ∷ pos 91 ∷ pos 84 ∷ negsuc 36 ∷
    negsuc 153 ∷ negsuc 138 ∷ negsuc 28 ∷ pos 21 ∷ negsuc 45 ∷ negsuc 119 ∷ negsuc 100 ∷ negsuc 34 ∷ negsuc 20 ∷
    negsuc 54 ∷ negsuc 45 ∷ pos 33 ∷ pos 112 ∷ pos 129 ∷ pos 105 ∷ pos 71 ∷ pos 12 ∷ negsuc 74 ∷ negsuc 121 ∷
    negsuc 67 ∷ pos 49 ∷ pos 119 ∷ pos 109 ∷ pos 88 ∷ pos 109 ∷ pos 119 ∷ pos 49 ∷ negsuc 67 ∷ negsuc 121 ∷ negsuc 74 ∷
    pos 12 ∷ pos 71 ∷ pos 105 ∷ pos 129 ∷ pos 112 ∷ pos 33 ∷ negsuc 45 ∷ negsuc 54 ∷ negsuc 20 ∷ negsuc 34 ∷
    negsuc 100 ∷ negsuc 119 ∷ negsuc 45 ∷ pos 21 ∷ negsuc 28 ∷ negsuc 138 ∷ negsuc 153 ∷ negsuc 36 ∷ pos 84 ∷ pos 91 ∷
    pos 16 ∷ negsuc 51 ∷ negsuc 87 ∷ negsuc 103 ∷ negsuc 72 ∷ pos 26 ∷ pos 112 ∷ pos 71 ∷ negsuc 71 ∷ negsuc 157 ∷
    negsuc 92 ∷ pos 29 ∷ pos 69 ∷ pos 19 ∷ negsuc 35 ∷ negsuc 61 ∷ negsuc 85 ∷ negsuc 95 ∷ negsuc 34 ∷ pos 73 ∷
    pos 124 ∷ pos 81 ∷ pos 42 ∷ pos 90 ∷ pos 147 ∷ pos 87 ∷ negsuc 56 ∷ negsuc 111 ∷ negsuc 6 ∷ pos 119 ∷ pos 102 ∷
    negsuc 29 ∷ negsuc 99 ∷ negsuc 21 ∷ pos 91 ∷ pos 94 ∷ negsuc 5 ∷ []

-- the tables by signal number
unfoldable pub re_of : ℕ → List ℤ
re_of zero = re_25
re_of (suc zero) = re_29
re_of (suc (suc n2)) = re_34

unfoldable pub im_of : ℕ → List ℤ
im_of zero = im_25
im_of (suc zero) = im_29
im_of (suc (suc n2)) = im_34

unfoldable pub samples : ℕ → ℕ → Cpx
samples n2 n = record { re = get_or (re_of n2) n (pos 0); im = get_or (im_of n2) n (pos 0) }

-- sample n of a signal is the entry in its table
unfoldable is_sample : ℕ → ℕ → Bool
is_sample n2 n = is_same (wave n2 n) (samples n2 n)

all_are : every_below 3 (λ n2. every_below 128 (is_sample n2)) ≡ true
unfolding re_25 im_25 re_29 im_29 re_34 im_34 re_of im_of samples is_sample quarter cosine w_at z_real z_imaginary z_at pss_at useful_at wave sum_below every_below
all_are = refl

pub wave_is : (n2 n : ℕ) → n2 < 3 → n < 128 → wave n2 n ≡ samples n2 n
unfolding is_sample
wave_is n2 n known l = is_same_tells _ _ (every_below_at 128 (is_sample n2) (every_below_at 3 (λ n2. every_below 128 (is_sample n2)) all_are n2 known) n l)
