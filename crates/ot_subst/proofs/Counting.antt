-- The steps of a walk, refused or not, are no more than the parts that it met.
use Rattle.std.specs.Prelude.{max, IfOk, OnErr}
use Rattle.std.proofs.Common.{◌≡◌, ℕ, suc, ◌+◌, ◌<◌, ◌≤◌, List, [], ◌∷◌, ◌++◌, map, length}
use Rattle.std.proofs.Common.{refl, sym, subst, inl, inr, Result, Ok, Err, arith, length-append}
use Rattle.std.proofs.lemmas.List.{length-map}
use Rattle.ot_logic.specs.Lists.{IsMember, AreDistinct, IsPart}
use Rattle.ot_logic.specs.Trees.{TyVar, Named, NConst, NApp, NAbs}
use Rattle.ot_logic.specs.NamedTerms.{parts, size, HasNoClash}
use Rattle.ot_logic.specs.Naming.{numbers}
use Rattle.ot_logic.specs.Table.{Extends, IsInjective}
use Rattle.ot_logic.proofs.TableLemmas.{get_or-IsInjective}
use Rattle.ot_laws.proofs.Tests.{tells_numbers}
use Rattle.ot_laws.proofs.Sets.{distinct-append}
use Rattle.ot_laws.proofs.Size.{part-self, remembered-size}
use Rattle.ot_term.specs.Term.{TermTable}
use Rattle.ot_term.specs.TermTable.{term_at, variable_of, Grows}
use Rattle.ot_term.specs.declared.term.VarKey.{VarKey}
use Rattle.ot_term.proofs.Growing.{term_at-Grows}
use Rattle.ot_subst.specs.Substitution.{Substitution, type_part, variable_part}
use Rattle.ot_subst.specs.Walk.{AreReady}
use Rattle.ot_subst.specs.Memory.{keys, IsPartBelow, IsWalked, CountsParts, IsCounted}
use Rattle.ot_subst.proofs.Walked.{no_clash-Grows}
use Rattle.ot_logic.proofs.Members.{IsMember-cases, IsMember-left, IsMember-map, IsMember-map_back, IsMember-right}

-- the steps of a walk that gave a result
pub counts-walked : {t u : TermTable} {s : Substitution} {r : List (VarKey × VarKey)} {m0 m1 : List (ℕ × ℕ)}
    {n0 n1 : ℕ} {x : Named ℕ} {k q : ℕ} → IsWalked t u s r m0 m1 n0 n1 x k q → IsCounted t s r m0 n0 n1 x k
counts-walked {t} {u} {s} {r} {m0} {m1} {n0} {n1} {x} {k} {q} a nil h = record {
  terms = keys m1;
  distinct = a.memory.distinct;
  known = λ n m.
      let (e, i, p) = IsMember-map_back (λ (z : ℕ × ℕ). z.0) n m1 m in
      elim (a.known e i) [
        | inl j ↦ inl (subst (λ z. IsMember z (keys m0)) p (IsMember-map (λ (z : ℕ × ℕ). z.0) e m0 j))
        | inr j ↦ inr (subst (IsPartBelow t x k) p j)
      ];
  most = omega (arith, a.counted nil h, length-map m1 (λ (e : ℕ × ℕ). e.0));
}

-- ---- the parts of an application
pub counts-left : {t : TermTable} (s : Substitution) {r : List (VarKey × VarKey)} {m0 : List (ℕ × ℕ)} {n0 n1 : ℕ}
    (f x : ℕ) → IsCounted t s r m0 n0 n1 (term_at t.terms f) (suc f)
    → IsCounted t s r m0 n0 n1 (NApp (term_at t.terms f) (term_at t.terms x)) (suc (max f x))
counts-left {t} s f x a nil h =
    let c = a nil h.0 in
    record {
      terms = c.terms;
      distinct = c.distinct;
      known = λ n m. elim (c.known n m) [
        | inl i ↦ inl i
        | inr p ↦ let l = p.below in
            inr (record {
              below = omega (arith, l);
              part = inr (IsMember-left (term_at t.terms n) (parts numbers (term_at t.terms f))
                  (parts numbers (term_at t.terms x)) p.part);
            })
      ];
      most = c.most;
    }

pub counts-right : {t u : TermTable} (g : Grows t u) {s : Substitution} {r : List (VarKey × VarKey)}
    (ready : AreReady t s r) {m0 m1 : List (ℕ × ℕ)} {n0 n1 n2 f x q : ℕ} → x < length t.terms
    → IsWalked t u s r m0 m1 n0 n1 (term_at t.terms f) (suc f) q → IsCounted u s r m1 n1 n2 (term_at u.terms x)
    (suc x) → IsCounted t s r m0 n0 n2 (NApp (term_at t.terms f) (term_at t.terms x)) (suc (max f x))
counts-right {t} {u} g {s} {r} ready {m0} {m1} {f = f} {x} xin a b nil h =
    let c = b nil (no_clash-Grows t u g s ready.subst x xin h.1) in
    let first = a.counted nil h.0 in
    record {
      terms = c.terms;
      distinct = c.distinct;
      known = λ n m. elim (c.known n m) [
        | inl i ↦
            let (e, j, p) = IsMember-map_back (λ (z : ℕ × ℕ). z.0) n m1 i in
            elim (a.known e j) [
              | inl k ↦ inl (subst (λ z. IsMember z (keys m0)) p (IsMember-map (λ (z : ℕ × ℕ). z.0) e m0 k))
              | inr k ↦
                  let l = k.below in
                  inr (record {
                    below = omega (arith, l, p);
                    part = subst
                        (λ z. IsMember (term_at t.terms z)
                        (parts numbers (NApp (term_at t.terms f) (term_at t.terms x)))) p
                        (inr (IsMember-left (term_at t.terms e.0) (parts numbers (term_at t.terms f))
                        (parts numbers (term_at t.terms x)) k.part));
                  })
            ]
        | inr k ↦
            let l = k.below in
            let within : n < length t.terms = omega (arith, l, xin) in
            inr (record {
              below = omega (arith, l);
              part = inr (IsMember-right (term_at t.terms n) (parts numbers (term_at t.terms f))
                  (parts numbers (term_at t.terms x))
                  (subst (λ z. IsMember z (parts numbers (term_at t.terms x))) (term_at-Grows t u g n within)
                  (subst (λ z. IsMember (term_at u.terms n) (parts numbers z)) (term_at-Grows t u g x xin)
                  k.part)));
            })
      ];
      most = omega (arith, first, c.most);
    }

-- ---- the body of an abstraction
pub counts-body : {t w : TermTable} (g : Grows t w) {s : Substitution} {r : List (VarKey × VarKey)}
    (ready : AreReady t s r) (v : VarKey) {m0 : List (ℕ × ℕ)} {n0 n1 body : ℕ} → body < length t.terms
    → IsCounted w s r m0 n0 n1 (term_at w.terms body) (suc body)
    → IsCounted t s r m0 n0 n1 (NAbs (variable_of t.types v) (term_at t.terms body)) (suc body)
counts-body {t} {w} g {s} {r} ready v {body = body} bin a nil h =
    let c = a nil (no_clash-Grows t w g s ready.subst body bin h.1) in
    record {
      terms = c.terms;
      distinct = c.distinct;
      known = λ n m. elim (c.known n m) [
        | inl i ↦ inl i
        | inr k ↦
            let l = k.below in
            let within : n < length t.terms = omega (arith, l, bin) in
            inr (record {
              below = l;
              part = inr (subst (λ z. IsMember z (parts numbers (term_at t.terms body)))
                  (term_at-Grows t w g n within) (subst (λ z. IsMember (term_at w.terms n) (parts numbers z))
                  (term_at-Grows t w g body bin) k.part));
            })
      ];
      most = c.most;
    }

-- ---- one term more, which was at work
one_more : (k : ℕ) (ks : List ℕ) → AreDistinct ks → ¬ (IsMember k ks) → AreDistinct (ks ++ k ∷ [])
one_more k ks d n = distinct-append ks (k ∷ []) d (λ i. i, tt)
    (λ x i j. elim j [ inl e ↦ n (subst (λ z. IsMember z ks) (sym e) i) | inr z ↦ z ])

pub counts-whole : (t : TermTable) (s : Substitution) (r : List (VarKey × VarKey)) (m0 : List (ℕ × ℕ))
    (n0 n1 n2 id k : ℕ) (x : Named ℕ) → term_at t.terms id ≡ x → k ≤ id → ¬ (IsMember id (keys m0)) → n1 ≤ n0 + 1
    → IsCounted t s r m0 n1 n2 x k → IsCounted t s r m0 n0 n2 (term_at t.terms id) (suc id)
counts-whole t s r m0 n0 n1 n2 id k x tree above absent step a nil h =
    let c = a nil (subst (HasNoClash numbers (type_part t s) (variable_part t s)) tree h) in
    let away : ¬ (IsMember id c.terms) =
    λ i. elim (c.known id i) [ inl j ↦ absent j | inr j ↦ let l = j.below in absurd (omega (arith, l, above)) ] in
    record {
      terms = c.terms ++ id ∷ [];
      distinct = one_more id c.terms c.distinct away;
      known = λ n m. elim (IsMember-cases n c.terms (id ∷ []) m) [
        | inl i ↦ elim (c.known n i) [
          | inl j ↦ inl j
          | inr j ↦ let l = j.below in
              inr (record {
                below = omega (arith, l, above);
                part = subst (λ z. IsMember (term_at t.terms n) (parts numbers z)) (sym tree) j.part;
              })
        ]
        | inr i ↦ elim i [
          | inl e ↦
              inr (record {
                below = omega (arith, e);
                part = subst (λ z. IsMember (term_at t.terms z) (parts numbers (term_at t.terms id))) e
                    (part-self numbers (term_at t.terms id));
              })
          | inr z ↦ absurd z
        ]
      ];
      most = omega (arith, c.most, step, length-append c.terms (id ∷ []));
    }

-- ---- the bound
-- different numbers are those of different trees
trees-distinct : (t : TermTable) → IsInjective t.terms → (ks : List ℕ)
    → ((n : ℕ) → IsMember n ks → n < length t.terms) → AreDistinct ks → AreDistinct (map (term_at t.terms) ks)
trees-distinct t one [] inside d = tt
trees-distinct t one (k ∷ ks) inside d = (away, trees-distinct t one ks (λ n i. inside n (inr i)) d.1)
  where
    away : ¬ (IsMember (term_at t.terms k) (map (term_at t.terms) ks))
    away i =
        let (n, j, e) = IsMember-map_back (term_at t.terms) (term_at t.terms k) ks i in
        d.0 (subst (λ z. IsMember z ks)
        (get_or-IsInjective t.terms one n k (NConst 0 (TyVar 0)) (inside n (inr j)) (inside k (inl refl)) e) j)

-- so a list of numbers of parts is no longer than the number of different parts
pub numbers-size : (t : TermTable) → IsInjective t.terms → (x : Named ℕ) (ks : List ℕ) → AreDistinct ks
    → ((n : ℕ) → IsMember n ks → (n < length t.terms) × IsMember (term_at t.terms n) (parts numbers x))
    → length ks ≤ size numbers x
numbers-size t one x ks d h =
    let most = remembered-size numbers tells_numbers x (map (term_at t.terms) ks)
    (trees-distinct t one ks (λ n i. (h n i).0) d) inside in
    omega (arith, most, length-map ks (term_at t.terms))
  where
    inside : IsPart (map (term_at t.terms) ks) (parts numbers x)
    inside y i = let (n, j, e) = IsMember-map_back (term_at t.terms) y ks i in
        subst (λ z. IsMember z (parts numbers x)) e (h n j).1

pub counted-size : (t : TermTable) → IsInjective t.terms → (old : List (ℕ × ℕ)) (from to : ℕ) (x : Named ℕ) (k : ℕ)
    → k ≤ length t.terms → old ≡ [] → CountsParts t old from to x k → to ≤ from + size numbers x
counted-size t one old from to x k le nil c =
    let most = numbers-size t one x c.terms c.distinct known in
    omega (arith, most, c.most)
  where
    known : (n : ℕ) → IsMember n c.terms → (n < length t.terms) × IsMember (term_at t.terms n) (parts numbers x)
    known n m = elim (c.known n m) [
      | inl i ↦ absurd (subst (λ z. IsMember n (keys z)) nil i)
      | inr i ↦ let l = i.below in (omega (arith, l, le), i.part)
    ]

-- the steps of a walk, whatever it answers
pub counts-either : {E : Type 0} (res : Result ℕ E) (t u : TermTable) (s : Substitution) (r : List (VarKey × VarKey))
    (m0 m1 : List (ℕ × ℕ)) (n0 n1 : ℕ) (x : Named ℕ) (k : ℕ) → IfOk res (IsWalked t u s r m0 m1 n0 n1 x k)
    → OnErr res (IsCounted t s r m0 n0 n1 x k) → IsCounted t s r m0 n0 n1 x k
counts-either (Ok q) t u s r m0 m1 n0 n1 x k a b = counts-walked a
counts-either (Err e) t u s r m0 m1 n0 n1 x k a b = b

-- no entry of a table stands at two numbers, where none does later
pub injective-before : {X : Type 0} (old new : List X) → Extends old new → IsInjective new → IsInjective old
injective-before old new e one = record { same = λ i j x p q. one.same i j x (e.keeps i x p) (e.keeps j x q) }
