-- The origin of a list is its cons tree.
use Rattle.std.specs.Prelude.{◌≡◌, ℕ, Ok, Err, nat_le, if◌then◌else◌, Bool, true, false}
use Rattle.std.proofs.Common.{refl, ap, ◌∙◌}
use Rattle.ot_logic.specs.Names.{Name}
use Rattle.ot_logic.specs.Hol.{depth_limit}
use Rattle.ot_logic.specs.Faults.{Nesting}
use Rattle.ot_logic.specs.Answers.{◌>>=◌}
use Rattle.ot_logic.specs.declared.command.Cmd.{Cmd}
use Rattle.ot_logic.specs.declared.command.Cmd.TheVariants as words
use Rattle.ot_trace.specs.Origins.{Origin, Origins, Number, Named, Make, Define, Outcome, NoOrigins, make_two}
use Rattle.ot_machine.specs.Objects.{Object, Objects, list}
use Rattle.ot_machine.specs.Objects.{no_objects, more_objects, nesting}
use Rattle.ot_machine.specs.Places.{as_list}
use Rattle.ot_machine.specs.Makers.{Read, maker, cons_made}
use Rattle.ot_machine.specs.Values.{value, values, applied}
use Rattle.ot_logic.specs.declared.kind.Kind.TheVariants as kinds
use Rattle.ot_machine.proofs.WordKinds.{word_kind, word-kind, outcome-kind}
use Rattle.ot_machine.proofs.Tops.{same-ok}
use Rattle.ot_machine.proofs.Operands.{no-operands, two-operands}
use Rattle.ot_machine.proofs.ObjectKinds.{list-is}
use Rattle.ot_logic.proofs.Results.{bind-ok}

abbrev made : Object → Read
made o = Ok o

-- a word that makes no list
abbrev IsOther : Cmd → Type 0
IsOther words.Nil = ⊥
IsOther words.Cons = ⊥
IsOther _ = Unit {0}

no-list : (w : Cmd) → IsOther w → kinds.List ≡ word_kind w → ⊥
no-list words.Version h p = cc
no-list words.Nil h p = h
no-list words.Cons h p = h
no-list words.HdTl h p = cc
no-list words.Def h p = cc
no-list words.Ref h p = cc
no-list words.Remove h p = cc
no-list words.Pop h p = cc
no-list words.Pragma h p = cc
no-list words.TypeOp h p = cc
no-list words.OpType h p = cc
no-list words.VarType h p = cc
no-list words.Var h p = cc
no-list words.VarTerm h p = cc
no-list words.Const h p = cc
no-list words.ConstTerm h p = cc
no-list words.AppTerm h p = cc
no-list words.AbsTerm h p = cc
no-list words.Refl h p = cc
no-list words.Assume h p = cc
no-list words.EqMp h p = cc
no-list words.AbsThm h p = cc
no-list words.AppThm h p = cc
no-list words.DeductAntisym h p = cc
no-list words.BetaConv h p = cc
no-list words.Subst h p = cc
no-list words.Sym h p = cc
no-list words.Trans h p = cc
no-list words.ProveHyp h p = cc
no-list words.Axiom h p = cc
no-list words.Thm h p = cc
no-list words.DefineConst h p = cc
no-list words.DefineConstList h p = cc
no-list words.DefineTypeOp h p = cc

-- of the empty list it is `nil`; of another it is `cons` of the head's and the tail's origin
pub record IsConsTree (o : Origin Name) (head : Object) (tail : Objects) : Type 0 where
  pub first : Origin Name
  pub rest : Origin Name
  pub is : o ≡ make_two words.Cons first rest
  pub head_is : value first ≡ Ok head
  pub tail_is : value rest ≡ Ok (list tail)

abbrev pub IsTreeOf : Origin Name → Objects → Type 0
IsTreeOf o no_objects = o ≡ Make words.Nil NoOrigins
IsTreeOf o (more_objects head tail) = IsConsTree o head tail

within : (n : ℕ) (o q : Object) → (if nat_le n depth_limit then Ok o else Err Nesting) ≡ made q → o ≡ q
within n o q p = by (nat_le n depth_limit) p
  where
    by : (b : Bool) → (if b then Ok o else Err Nesting) ≡ made q → o ≡ q
    by true p = same-ok _ _ _ refl p
    by false p = absurd (cc)

-- what `cons` makes
parts-of : (x h : Object) (xs t : Objects) → list (more_objects x xs) ≡ list (more_objects h t) → (x ≡ h) × (xs ≡ t)
parts-of x h xs t p = (cc, cc)

cons-parts : (top below : Object) (head : Object) (tail : Objects) → cons_made (Ok top) (Ok below)
    ≡ Ok (list (more_objects head tail)) → (below ≡ head) × (top ≡ list tail)
cons-parts top below head tail p =
    let a = bind-ok (as_list top) _ _ p in
    let b = parts-of _ _ _ _
    (within (nesting (list (more_objects below a.0))) (list (more_objects below a.0)) _ a.2) in
    (b.0, list-is top a.0 a.1 ∙ ap list b.1)

cons-no_empty : (top below : Object) → cons_made (Ok top) (Ok below) ≡ Ok (list no_objects) → ⊥
cons-no_empty top below p =
    let a = bind-ok (as_list top) _ _ p in
    let b = within (nesting (list (more_objects below a.0))) (list (more_objects below a.0)) _ a.2 in
    cc

nil-tree : (args : Origins Name) (os : Objects) → (values args >>= applied (maker words.Nil)) ≡ Ok (list os)
    → IsTreeOf (Make words.Nil args) os
nil-tree args no_objects p = ap (Make words.Nil) (no-operands _ args _ p).0
nil-tree args (more_objects head tail) p = let e = (no-operands (list no_objects) args _ p).1 in absurd (cc)

cons-tree : (args : Origins Name) (os : Objects) → (values args >>= applied (maker words.Cons)) ≡ Ok (list os)
    → IsTreeOf (Make words.Cons args) os
cons-tree args no_objects p = let t = two-operands cons_made args _ p in absurd (cons-no_empty t.top t.below t.made)
cons-tree args (more_objects head tail) p =
    let t = two-operands cons_made args _ p in
    let e = cons-parts t.top t.below head tail t.made in
    record {
      first = t.lower;
      rest = t.upper;
      is = ap (Make words.Cons) t.are;
      head_is = t.lower_is
          ∙ ap Ok e.0;
      tail_is = t.upper_is ∙ ap Ok e.1;
    }

word-tree : (w : Cmd) (args : Origins Name) (os : Objects) → (values args >>= applied (maker w)) ≡ Ok (list os)
    → IsTreeOf (Make w args) os
word-tree words.Nil args os p = nil-tree args os p
word-tree words.Cons args os p = cons-tree args os p
word-tree w args os p = absurd (no-list w tt (word-kind w args (list os) p))

pub list-tree : (o : Origin Name) (os : Objects) → value o ≡ Ok (list os) → IsTreeOf o os
list-tree (Number k) os p = absurd (cc)
list-tree (Named n) os p = absurd (cc)
list-tree (Define w args) os p = absurd (cc)
list-tree (Outcome j d) os p = absurd (other (outcome-kind j d (list os) p))
  where
    other : kinds.List ≡ kinds.Thm → ⊥
    other e = cc
list-tree (Make w args) os p = word-tree w args os p
