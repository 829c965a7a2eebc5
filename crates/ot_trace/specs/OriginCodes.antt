-- Codes of origins, which a trace's value needs: each origin as a tree of numbers, over names that have a code.
use Rattle.std.specs.Prelude.{◌≡◌, ℕ, List, refl}
use Rattle.std.specs.Option.{unwrap_or}
use Rattle.std.specs.Coded.{Coded, code_by, coded_ℕ, coded_ℤ, coded_list}
use base.Stored.{Gv, gnil, gnum, gcons, num}
use mathlib.Core.Path.{ap, subst}
use lib.Dec.{T, eqb}
use Rattle.ot_logic.specs.declared.command.Cmd.{Cmd}
use Rattle.ot_logic.specs.declared.command.Cmd.TheVariants as words
use Rattle.ot_logic.specs.Commands.{spelling, command_of}
use Rattle.ot_trace.specs.Origins.{Origin, Origins, Number, Named, Make, Define, Outcome, NoOrigins, MoreOrigins}

abbrev first : Gv → Gv
first (gcons a b) = a
first g = gnil

abbrev rest : Gv → Gv
rest (gcons a b) = b
rest g = gnil

abbrev tag : Gv → ℕ
tag g = num (first g)

-- ---- a word by its spelling
abbrev word_of : List ℕ → Cmd
word_of text = unwrap_or (command_of text) words.Version

pub word_of-spelling : (w : Cmd) → word_of (spelling w) ≡ w
word_of-spelling words.Version = refl
word_of-spelling words.Nil = refl
word_of-spelling words.Cons = refl
word_of-spelling words.HdTl = refl
word_of-spelling words.Def = refl
word_of-spelling words.Ref = refl
word_of-spelling words.Remove = refl
word_of-spelling words.Pop = refl
word_of-spelling words.Pragma = refl
word_of-spelling words.TypeOp = refl
word_of-spelling words.OpType = refl
word_of-spelling words.VarType = refl
word_of-spelling words.Var = refl
word_of-spelling words.VarTerm = refl
word_of-spelling words.Const = refl
word_of-spelling words.ConstTerm = refl
word_of-spelling words.AppTerm = refl
word_of-spelling words.AbsTerm = refl
word_of-spelling words.Refl = refl
word_of-spelling words.Assume = refl
word_of-spelling words.EqMp = refl
word_of-spelling words.AbsThm = refl
word_of-spelling words.AppThm = refl
word_of-spelling words.DeductAntisym = refl
word_of-spelling words.BetaConv = refl
word_of-spelling words.Subst = refl
word_of-spelling words.Sym = refl
word_of-spelling words.Trans = refl
word_of-spelling words.ProveHyp = refl
word_of-spelling words.Axiom = refl
word_of-spelling words.Thm = refl
word_of-spelling words.DefineConst = refl
word_of-spelling words.DefineConstList = refl
word_of-spelling words.DefineTypeOp = refl

abbrev pub coded_word : Coded Cmd
coded_word = code_by (List ℕ) (coded_list coded_ℕ) spelling word_of word_of-spelling

module _ {N : Type 0} (letter : Coded N) where
  abbrev mutual
    pub code_origin : Origin N → Gv
    code_origin (Number k) = gcons (gnum 0) (coded_ℤ.code k)
    code_origin (Named n) = gcons (gnum 1) (letter.code n)
    code_origin (Make w os) = gcons (gnum 2) (gcons (coded_word.code w) (code_origins os))
    code_origin (Define w os) = gcons (gnum 3) (gcons (coded_word.code w) (code_origins os))
    code_origin (Outcome j d) = gcons (gnum 4) (gcons (gnum j) (code_origin d))

    pub code_origins : Origins N → Gv
    code_origins NoOrigins = gcons (gnum 0) gnil
    code_origins (MoreOrigins o os) = gcons (gnum 1) (gcons (code_origin o) (code_origins os))

  mutual
    pub origin_inj : (x y : Origin N) → code_origin x ≡ code_origin y → x ≡ y
    origin_inj (Number j) (Number k) p = ap Number (coded_ℤ.inj j k (ap rest p))
    origin_inj (Named n) (Named m) p = ap Named (letter.inj n m (ap rest p))
    origin_inj (Make v os) (Make w ps) p = λ i. Make (coded_word.inj v w (ap (λ g. first (rest g)) p) i)
        (origins_inj os ps (ap (λ g. rest (rest g)) p) i)
    origin_inj (Define v os) (Define w ps) p = λ i. Define (coded_word.inj v w (ap (λ g. first (rest g)) p) i)
        (origins_inj os ps (ap (λ g. rest (rest g)) p) i)
    origin_inj (Outcome j d) (Outcome k e) p =
        λ i. Outcome (num (first (rest (p i)))) (origin_inj d e (ap (λ g. rest (rest g)) p) i)
    origin_inj x y p = absurd (subst (λ g. T (eqb (tag g) (tag (code_origin x)))) p tt)

    pub origins_inj : (x y : Origins N) → code_origins x ≡ code_origins y → x ≡ y
    origins_inj NoOrigins NoOrigins p = refl
    origins_inj (MoreOrigins o os) (MoreOrigins q ps) p =
        λ i. MoreOrigins (origin_inj o q (ap (λ g. first (rest g)) p) i)
        (origins_inj os ps (ap (λ g. rest (rest g)) p) i)
    origins_inj x y p = absurd (subst (λ g. T (eqb (tag g) (tag (code_origins x)))) p tt)

  abbrev pub coded_origin : Coded (Origin N)
  coded_origin = record { code = code_origin; inj = origin_inj }
