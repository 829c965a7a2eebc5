-- The names that a block's statements say can be said by lines, and so its context reads what a line can say.
use Rattle.std.specs.Prelude.{Option, Some, None, unwrap_or, codes}
use Rattle.std.specs.List.{AllByRecursion, filter, cons_option}
use Rattle.std.specs.Map.{lookup}
use Rattle.std.proofs.Common.{◌≡◌, ℕ, List, [], ◌∷◌, map, Bool, true, false, cond, refl, sym, ap, subst}
use Rattle.std.proofs.lemmas.Option.{none-some, same_Some}
use Rattle.ot_logic.specs.Names.{Name, same_name}
use Rattle.ot_logic.specs.Lists.{IsMember}
use Rattle.ot_logic.specs.Naming.{names}
use Rattle.ot_logic.specs.Reading.{name_read}
use Rattle.ot_interp.specs.Interpretation.{renamed, InnerThenOuter}
use Rattle.ot_theory.specs.Theory.{TagText}
use Rattle.ot_theory.specs.Values.{key_of}
use Rattle.ot_theory.specs.Interpretations.{◌>>=◌, split_interpret, same_word, kind_text}
use Rattle.ot_theory.specs.Interpretations.{IsInterpretation, OneInterpretation}
use Rattle.ot_theory.specs.declared.interpretation.SymbolWord.{SymbolWord}
use Rattle.ot_theory.specs.declared.interpretation.SymbolWord.TheVariants.{Con, TyOp}
use Rattle.ot_theory.specs.declared.keys.Key.{Key}
use Rattle.ot_theory.specs.declared.keys.Key.TheVariants as keys
use Rattle.ot_machine.specs.LawfulLaws.{CanBeNamed}
use Rattle.ot_machine.specs.Writable.{IsWritable}
use Rattle.ot_link.specs.Renaming.{Renaming, renaming_by, renaming_at, renamings_of, pairs_of, interpretation_of}
use Rattle.ot_link.specs.Lawful.{BlocksAreNaming}
use Rattle.ot_link.proofs.Saying.{said-of}
use Rattle.ot_logic.proofs.Members.{IsMember-right}

-- what a symbol becomes can be said by a line
pub record GivesWritable (r : Renaming) : Type 0 where
  pub to : IsWritable r.to

pub record LeadsToWritable (p : Name × Name) : Type 0 where
  pub to : IsWritable p.1

-- the second name of an interpretation is a part of its line
to-inside : (value : List ℕ) (kind : SymbolWord) (from to : List ℕ) → IsInterpretation value kind from to
    → ¬ (IsMember 10 value) → ¬ (IsMember 10 to)
to-inside value kind from to is plain m =
    let last = IsMember-right 10 (codes "as") _ (IsMember-right 10 is.third_gap to m) in
    plain (subst (IsMember 10) (sym is.text)
    (IsMember-right 10 (kind_text kind) _
    (IsMember-right 10 is.first_gap _ (IsMember-right 10 from _ (IsMember-right 10 is.second_gap _ last)))))

module _ (said : CanBeNamed IsWritable) (one : OneInterpretation) where
  names-writable : (kind : SymbolWord) (from to : Option Name) → ((n : Name) → to ≡ Some n → IsWritable n)
      → (r : Renaming) → (from >>= λ a. to >>= λ b. Some (record { kind = kind; from = a; to = b })) ≡ Some r
      → GivesWritable r
  names-writable kind None to w r e = absurd (none-some r e)
  names-writable kind (Some a) None w r e = absurd (none-some r e)
  names-writable kind (Some a) (Some b) w r e =
      record { to = subst IsWritable (ap (λ (o : Renaming). o.to) (same_Some _ r e)) (w b refl) }

  value-writable : (value : List ℕ) → ¬ (IsMember 10 value) → (parts : Option (SymbolWord × List ℕ × List ℕ))
      → split_interpret value ≡ parts
      → (r : Renaming)
      → (parts >>= λ p. name_read p.1 >>= λ a. name_read p.2
      >>= λ b. Some (record { kind = p.0; from = a; to = b })) ≡ Some r → GivesWritable r
  value-writable value plain None is r e = absurd (none-some r e)
  value-writable value plain (Some p) is r e =
      let read = (one value p.0 p.1 p.2).0 is in
      names-writable p.0 (name_read p.1) (name_read p.2)
      (λ n text. said p.2 n (record { short = read.to_named.limited; one = to-inside value p.0 p.1 p.2 read plain })
      (said-of p.2 n text))
      r e

  key-writable : (key : Key) (value : List ℕ) → ¬ (IsMember 10 value) → (r : Renaming)
      → renaming_by key value ≡ Some r → GivesWritable r
  key-writable keys.Interpret value plain r e = value-writable value plain (split_interpret value) refl r e
  key-writable keys.Import value plain r e = absurd (none-some r e)
  key-writable keys.Article value plain r e = absurd (none-some r e)
  key-writable keys.Package value plain r e = absurd (none-some r e)
  key-writable keys.Other value plain r e = absurd (none-some r e)

  all-writable : (ts : List TagText) → AllByRecursion (λ t. ¬ (IsMember 10 t.value)) ts
      → AllByRecursion GivesWritable (renamings_of ts)
  all-writable [] plain = tt
  all-writable (t ∷ ts) plain = by (renaming_at t) refl (all-writable ts plain.1)
    where
      by : (o : Option Renaming) → renaming_at t ≡ o → AllByRecursion GivesWritable (renamings_of ts)
          → AllByRecursion GivesWritable (cons_option o (renamings_of ts))
      by None e rest = rest
      by (Some r) e rest = (key-writable (key_of t.key) t.value plain.0 r e, rest)

-- those of one kind
pairs-writable : (kind : SymbolWord) (rs : List Renaming) → AllByRecursion GivesWritable rs
    → AllByRecursion LeadsToWritable (pairs_of kind rs)
pairs-writable kind [] h = tt
pairs-writable kind (r ∷ rs) h = by (same_word kind r.kind) (pairs-writable kind rs h.1)
  where
    by : (b : Bool) → AllByRecursion LeadsToWritable (pairs_of kind rs)
        → AllByRecursion LeadsToWritable
        (map (λ (q : Renaming). (q.from, q.to))
        (cond b (r ∷ filter (λ q. same_word kind q.kind) rs) (filter (λ q. same_word kind q.kind) rs)))
    by true rest = (record { to = h.0.to }, rest)
    by false rest = rest

renamed-writable : (ps : List (Name × Name)) (n : Name) → AllByRecursion LeadsToWritable ps → IsWritable n
    → IsWritable (renamed names ps n)
renamed-writable [] n h w = w
renamed-writable (p ∷ ps) n h w = by (same_name n p.0) (renamed-writable ps n h.1 w)
  where
    by : (b : Bool) → IsWritable (renamed names ps n)
        → IsWritable (unwrap_or (cond b (Some p.1) (lookup (same_name n) ps)) n)
    by true rest = h.0.to
    by false rest = rest

-- first the names of a block, then those of its file's context
pub blocks-naming : CanBeNamed IsWritable → OneInterpretation → InnerThenOuter names → BlocksAreNaming
blocks-naming said one composed outer statements imports right naming =
    let own = interpretation_of statements in
    let all : AllByRecursion GivesWritable (renamings_of statements) = all-writable said one statements right.lines in
    let first : (kind : SymbolWord) (n : Name) → IsWritable n → IsWritable (renamed names (pairs_of kind (renamings_of statements)) n) =
    λ kind n w. renamed-writable (pairs_of kind (renamings_of statements)) n
    (pairs-writable kind (renamings_of statements) all) w in
    record {
      constants = λ n w. subst IsWritable (sym (composed own.constants outer.interpretation.constants n))
          (naming.constants (renamed names own.constants n) (first Con n w));
      type_ops = λ n w. subst IsWritable (sym (composed own.type_ops outer.interpretation.type_ops n))
          (naming.type_ops (renamed names own.type_ops n) (first TyOp n w));
    }
