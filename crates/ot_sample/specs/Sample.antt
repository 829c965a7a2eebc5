-- The text of the sample article: a term that doubles N times under f, put for the variable of an abstraction.
use Rattle.std.specs.Prelude.{◌≡◌, ◌≤◌, ℕ, zero, suc, ◌+◌, ◌*◌, ◌==◌, cond, List}
use Rattle.std.specs.Prelude.{[], ◌∷◌, ◌++◌, map, codes, decimal, count_by}

-- words, a line each: a newline in place of the space behind each
abbrev pub lines : List ℕ → List ℕ
lines = map (λ b. cond (b == 32) 10 b)

-- a line with a number
abbrev pub number : ℕ → List ℕ
number k = decimal k ++ 10 ∷ []

-- the operator ->, the types A, A -> A and A -> (A -> A), the terms f and x and y, and the variable x
abbrev pub opening : List ℕ
opening =
    lines (codes "6 version \"->\" typeOp 0 def pop \"A\" varType 1 def pop ")
    ++ lines (codes
    "0 ref 1 ref 1 ref nil cons cons opType 2 def pop 0 ref 1 ref 2 ref nil cons cons opType 3 def pop ")
    ++ lines (codes
    "\"f\" 3 ref var varTerm 4 def pop \"x\" 1 ref var 5 def varTerm 6 def pop \"y\" 1 ref var varTerm 7 def pop ")

-- f applied twice to the entry a, as the entry b
abbrev pub doubled : ℕ → ℕ → List ℕ
doubled a b =
    lines (codes "4 ref ") ++ number a ++ lines (codes "ref appTerm ") ++ number a ++ lines (codes "ref appTerm ")
    ++ number b ++ lines (codes "def pop ")

-- N times, over x and over y: the i-th time from the entries 4 + 2i and 5 + 2i
abbrev pub doublings : ℕ → List ℕ
doublings zero = []
doublings (suc k) = doublings k ++ doubled (4 + 2 * suc k) (6 + 2 * suc k) ++ doubled (5 + 2 * suc k) (7 + 2 * suc k)

-- refl of the entry t alone; that \x. t applied to y, which is the entry r, is t with y for x
abbrev pub redex : ℕ → ℕ → List ℕ
redex t r =
    number t ++ lines (codes "ref refl pop 5 ref ") ++ number t ++ lines (codes "ref absTerm 7 ref appTerm ")
    ++ number r ++ lines (codes "def betaConv ")

-- no hypothesis, and the constant = at A
abbrev pub equality : List ℕ
equality =
    lines (codes
    "nil \"=\" const 0 ref 1 ref 0 ref 1 ref \"bool\" typeOp nil opType nil cons cons opType nil cons cons opType constTerm ")

-- the theorem is exported, as the equation of the entries r and s
abbrev pub exported : ℕ → ℕ → List ℕ
exported r s = number r ++ lines (codes "ref appTerm ") ++ number s ++ lines (codes "ref appTerm thm ")

-- the article for N, whose last doubled terms are t over x and s over y
abbrev pub sample : ℕ → List ℕ
sample n = opening ++ doublings n ++ redex (6 + 2 * n) (8 + 2 * n) ++ equality ++ exported (8 + 2 * n) (7 + 2 * n)

-- ---- a law

-- how many lines it has, for the numbers that the code takes
abbrev pub SampleLines : Type 0
SampleLines = (n : ℕ) → n ≤ 1000 → count_by (λ b. b == 10) (sample n) ≡ 110 + 22 * n
