-- The words that stand for several records.
use Rattle.std.specs.Prelude.{slice_get}
use Rattle.std.specs.List.{AllByRecursion}
use Rattle.std.proofs.Common.{◌≡◌, ℕ, ◌+◌, true, List, [], ◌∷◌, ◌++◌, Some}
use Rattle.std.proofs.Common.{Ok, refl, sym, ap, subst, ◌∙◌, inl, inr, arith}
use Rattle.ot_logic.specs.Lists.{IsSameSet, AreDistinct}
use Rattle.ot_logic.specs.Names.{Name}
use Rattle.ot_logic.specs.Naming.{names}
use Rattle.ot_logic.specs.Trees.{Ty, Tm, App, Sequent}
use Rattle.ot_logic.specs.Hol.{depth_limit, fun_ty, bool_ty, as_equation, HasType, equation, union, minus, sequent_of}
use Rattle.ot_logic.specs.Rules.{sides, sym_rule, trans_rule, prove_hyp_rule, proved_hyp}
use Rattle.ot_logic.specs.Faults.{NotEquation}
use Rattle.ot_logic.specs.declared.command.Cmd.TheVariants as words
use Rattle.ot_laws.proofs.Tests.{tells_names}
use Rattle.ot_laws.proofs.Typing.{app-typed}
use Rattle.ot_laws.proofs.Equations.{equation-sides}
use Rattle.ot_laws.proofs.Steps.{within_limit-ok, sides-ok}
use Rattle.ot_laws.proofs.Sets.{same_set-then, same_set-both_ways, all-member, all-from_members}
use Rattle.ot_laws.proofs.Hypotheses.{IsMember-union, IsMember-minus, distinct-union, distinct-minus}
use Rattle.ot_log_format.specs.Steps.{log_depth, is_sequent_within}
use Rattle.ot_log_format.specs.State.{LogState}
use Rattle.ot_machine.specs.Writable.{IsWritable}
use Rattle.ot_machine.specs.NamesIn.{TmNamed, SequentNamed}
use Rattle.ot_log_records.specs.Entries.{term_nodes}
use Rattle.ot_log_records.specs.Expansions.{equals_at, sym_entries, trans_entries}
use Rattle.ot_log_records.specs.Expansions.{prove_hyp_entries, sym_of, trans_of, prove_hyp_of}
use Rattle.ot_log_records.specs.Same.{IsSame}
use Rattle.ot_log_records.specs.Logged.{Log}
use Rattle.ot_log_records.proofs.Fitting.{Fits, fits-more, sides-fit, applied-fits, sym-fits, chain-fits, discharge-fits}
use Rattle.ot_log_records.proofs.Standing.{Stands}
use Rattle.ot_log_records.proofs.Expanding.{sym-hyps, chain-hyps, discharge-hyps}
use Rattle.ot_log_records.proofs.Same.{same-union, same-minus}
use Rattle.ot_log_records.proofs.Several.{sym-stands, trans-stands, prove_hyp-stands}
use Rattle.ot_log_law.proofs.Kept.{IsKept, AllFit}
use Rattle.ot_log_law.proofs.KeptWords.{IsChain, chain-of, lemma-of}
use Rattle.ot_log_law.proofs.Makes.{sequent-within, term-named, number-low, Makes, makes-all, kept-same}
use Rattle.ot_log_law.proofs.Singles.{Nodes, nodes-then, no-nodes}
use Rattle.ot_logic.proofs.Results.{bind-ok, some_or-ok}

abbrev wide : ℕ
wide = depth_limit + 2

abbrev AllWide : List (Tm Name) → Type 0
AllWide = AllByRecursion (Fits names wide)

wider : (ts : List (Tm Name)) → AllFit ts → AllWide ts
wider [] h = tt
wider (t ∷ ts) h = (fits-more names depth_limit wide (omega arith) t h.0, wider ts h.1)

wide-union : (g h : List (Tm Name)) → AllWide g → AllWide h → AllWide (union names g h)
wide-union g h a b =
    all-from_members (Fits names wide) (union names g h) (λ x m. elim ((IsMember-union names tells_names x g h).0 m) [
      | inl i ↦ all-member (Fits names wide) g a x i
      | inr i ↦ all-member (Fits names wide) h b x i
    ])

wide-minus : (x : Tm Name) (g : List (Tm Name)) → AllWide g → AllWide (minus names x g)
wide-minus x g a =
    all-from_members (Fits names wide) (minus names x g)
    (λ y m. all-member (Fits names wide) g a y (IsMember-minus names tells_names y x g m).0)

within : (q : Sequent Name) → AllWide q.hyps → Fits names wide q.concl → is_sequent_within names q ≡ true
within q g c = sequent-within wide (omega arith) q g c

-- `=` at a type, applied to a term or to nothing
nodes-of : (t : Tm Name) (ty : Ty Name) → HasType names t ty → Fits names wide t → TmNamed IsWritable t
    → Nodes (term_nodes t ++ [])
nodes-of t ty w f h =
    nodes-then (term_nodes t) [] (term-named t ty w (fits-more names wide log_depth (omega arith) t f) h) no-nodes

-- ---- sym

pub sym-makes : (x : Log) (st : LogState Name) (i : ℕ) (a r q : Sequent Name) → Stands x st → IsKept a → IsKept q
    → SequentNamed IsWritable a → slice_get st.sequents i ≡ Some r → IsSame names a r
    → sym_rule names a ≡ Ok q → Makes words.Sym x st (sym_of x.sequents (as_equation names a.concl) i) q
sym-makes x st i a r q s ka kq named get same rule =
    let (e, p, m) = bind-ok (sides names a) _ q rule in
    let is = sides-ok names tells_names a e p in
    let found : as_equation names a.concl ≡ Some e = some_or-ok NotEquation (as_equation names a.concl) e p in
    let ty = e.0 in let t = e.1 in let u = e.2 in
    let made = (within_limit-ok names tells_names (record { hyps = a.hyps; concl = equation names ty u t }) q m).1 in
    let typed = equation-sides names tells_names ty (bool_ty names) t u
    (subst (λ z. HasType names z (bool_ty names)) is ka.sequent.concl) in
    let fit = subst (Fits names depth_limit) is ka.concl in
    let fit_made : Fits names depth_limit (equation names ty u t) =
    subst (λ (z : Sequent Name). Fits names depth_limit z.concl) (sym made) kq.concl in
    let f = sym-fits names tells_names depth_limit ty t u typed.0 typed.1 fit fit_made in
    let side = sides-fit names tells_names depth_limit ty t u fit in
    let nm : TmNamed IsWritable (equation names ty t u) = subst (TmNamed IsWritable) is named.1 in
    let k = kept-same a r same ka in
    let wr = wider r.hyps k.hyps in
    let d1 = side.left_depth in
    let eq_fits : Fits names wide (equals_at ty) =
    record { depth = omega arith; types = let z = side.type_depth in omega (arith, z) } in
    let t_fits : Fits names wide t =
    fits-more names depth_limit wide (omega arith) t (record { depth = omega (arith, d1); types = side.left }) in
    let n1 = nodes-of (equals_at ty) (fun_ty names ty (fun_ty names ty (bool_ty names))) refl eq_fits nm.0.0 in
    let n2 = nodes-of t ty typed.0 t_fits nm.0.1 in
    let low = number-low x st i r s get in
    let to = fun_ty names ty (bool_ty names) in
    let g1 = union names [] r.hyps in
    let g2 = union names g1 [] in
    let g3 = union names g2 [] in
    let o : Sequent Name = sequent_of names (equation names (fun_ty names ty to) (equals_at ty) (equals_at ty)) in
    let v : Sequent Name =
    record { hyps = g1; concl = equation names to (App (equals_at ty) t) (App (equals_at ty) u) } in
    let l : Sequent Name = sequent_of names (equation names ty t t) in
    let w : Sequent Name =
    record { hyps = g2; concl = equation names (bool_ty names) (equation names ty t t) (equation names ty u t) } in
    let h1 = wide-union [] r.hyps tt wr in
    let h2 = wide-union g1 [] h1 tt in
    let h3 = wide-union g2 [] h2 tt in
    let last : Sequent Name = record { hyps = g3; concl = equation names ty u t } in
    let all = sym-stands x st r i ty t u s get (sym same.concl ∙ is) typed.0 n1.0 n2.0
    (within o tt f.0) (within v h1 f.1) (within l tt f.2) (within w h2 f.3)
    (within last h3 (fits-more names depth_limit wide (omega arith) (equation names ty u t) fit_made)) in
    let hyps : IsSameSet q.hyps g3 =
    subst (λ (z : Sequent Name). IsSameSet z.hyps g3) made
    (same_set-then same.hyps (same_set-both_ways (sym-hyps names tells_names r.hyps))) in
    let d3 : AreDistinct g3 =
    distinct-union names tells_names g2 []
    (distinct-union names tells_names g1 [] (distinct-union names tells_names [] r.hyps tt same.right) tt) tt in
    let n = x.sequents in
    subst (λ z. Makes words.Sym x st (sym_of n z i) q) (sym found)
    (makes-all words.Sym x st (sym_entries n ty t i) q last (o ∷ v ∷ l ∷ w ∷ []) (λ z. cc) all
    (record { hyps = hyps; concl = ap (λ (z : Sequent Name). z.concl) (sym made); left = kq.distinct; right = d3 }) (
      record { nodes = n1.1; operands = (tt, tt) },
      (
        record { nodes = tt; operands = (omega arith, (omega (arith, low), tt)) },
        (
          record { nodes = n2.1; operands = (tt, tt) },
          (
            record { nodes = tt; operands = (omega arith, (omega arith, tt)) },
            (record { nodes = tt; operands = (omega arith, (omega arith, tt)) }, tt),
          ),
        ),
      ),
    ))

-- ---- trans

-- of the first a = b and the second b = d, which stand at these numbers
chain-makes : (x : Log) (st : LogState Name) (i j : ℕ) (first second first' second' q : Sequent Name)
    (g : List (Tm Name))
    → Stands x st → IsKept first → IsKept second → IsKept q → SequentNamed IsWritable first
    → slice_get st.sequents i ≡ Some first' → slice_get st.sequents j ≡ Some second'
    → IsSame names first first' → IsSame names second second' → (c : IsChain first second q g)
    → IsSameSet q.hyps (union names first.hyps second.hyps)
    → Makes words.Trans x st (trans_entries x.sequents c.ty c.a i j) q
chain-makes x st i j first second first' second' q g s k1 k2 kq named get1 get2 same1 same2 c set =
    let ty = c.ty in let a = c.a in let b = c.b in let d = c.d in
    let fit1 = subst (Fits names depth_limit) c.first_is k1.concl in
    let fit2 = subst (Fits names depth_limit) c.second_is k2.concl in
    let f = chain-fits names tells_names depth_limit ty a b d c.left_typed c.middle_typed c.right_typed fit1 fit2 in
    let nm : TmNamed IsWritable (equation names ty a b) = subst (TmNamed IsWritable) c.first_is named.1 in
    let side = sides-fit names tells_names depth_limit ty a b fit1 in
    let d1 = side.left_depth in let z1 = side.type_depth in let m1 = side.least in
    let app_fits = applied-fits names tells_names depth_limit ty a c.left_typed
    (omega (arith, d1)) (omega (arith, z1)) (omega (arith, m1)) side.left in
    let eq = equals_at ty in
    let typed = app-typed names tells_names [] eq a ty (fun_ty names ty (bool_ty names)) refl c.left_typed in
    let n1 = nodes-of (App eq a) (fun_ty names ty (bool_ty names)) typed
    (fits-more names depth_limit wide (omega arith) (App eq a) app_fits) (nm.0.0, nm.0.1) in
    let w1 = wider first'.hyps (kept-same first first' same1 k1).hyps in
    let w2 = wider second'.hyps (kept-same second second' same2 k2).hyps in
    let g1 = union names [] second'.hyps in
    let g2 = union names g1 first'.hyps in
    let h1 = wide-union [] second'.hyps tt w2 in
    let h2 = wide-union g1 first'.hyps h1 w1 in
    let o : Sequent Name =
    sequent_of names (equation names (fun_ty names ty (bool_ty names)) (App eq a) (App eq a)) in
    let m : Sequent Name =
    record { hyps = g1; concl = equation names (bool_ty names) (equation names ty a b) (equation names ty a d) } in
    let last : Sequent Name = record { hyps = g2; concl = equation names ty a d } in
    let all = trans-stands x st first' second' i j ty a b d s get1 get2
    (sym same1.concl ∙ c.first_is) (sym same2.concl ∙ c.second_is) c.left_typed n1.0
    (within o tt f.0) (within m h1 f.1)
    (within last h2 (fits-more names depth_limit wide (omega arith) (equation names ty a d) f.2)) in
    let hyps : IsSameSet q.hyps g2 =
    same_set-then set (same_set-then (same-union names tells_names
    first.hyps first'.hyps second.hyps second'.hyps same1.hyps same2.hyps)
    (same_set-both_ways (chain-hyps names tells_names first'.hyps second'.hyps))) in
    let d2 = distinct-union names tells_names g1 first'.hyps
    (distinct-union names tells_names [] second'.hyps tt same2.right) same1.right in
    let low1 = number-low x st i first' s get1 in
    let low2 = number-low x st j second' s get2 in
    makes-all words.Trans x st (trans_entries x.sequents ty a i j) q last (o ∷ m ∷ []) (λ z. cc) all
    (record { hyps = hyps; concl = ap (λ (z : Sequent Name). z.concl) c.is; left = kq.distinct; right = d2 }) (
      record { nodes = n1.1; operands = (tt, tt) },
      (
        record { nodes = tt; operands = (omega arith, (omega (arith, low2), tt)) },
        (record { nodes = tt; operands = (omega arith, (omega (arith, low1), tt)) }, tt),
      ),
    )

swapped : (g h : List (Tm Name)) → IsSameSet (union names g h) (union names h g)
swapped g h = record {
  to =
      λ x m. (IsMember-union names tells_names x h g).1
      (elim ((IsMember-union names tells_names x g h).0 m) [ inl a ↦ inr a | inr b ↦ inl b ]);
  back =
      λ x m. (IsMember-union names tells_names x g h).1
      (elim ((IsMember-union names tells_names x h g).0 m) [ inl a ↦ inr a | inr b ↦ inl b ]);
}

self : (g : List (Tm Name)) → IsSameSet g g
self g = record { to = λ x m. m; back = λ x m. m }

pub trans-makes : (x : Log) (st : LogState Name) (i j : ℕ) (a b a' b' q : Sequent Name) → Stands x st → IsKept a
    → IsKept b
    → IsKept q → SequentNamed IsWritable a → SequentNamed IsWritable b → slice_get st.sequents i ≡ Some a'
    → slice_get st.sequents j ≡ Some b'
    → IsSame names a a' → IsSame names b b' → trans_rule names a b ≡ Ok q
    → Makes words.Trans x st (trans_of x.sequents (as_equation names a.concl) (as_equation names b.concl) i j) q
trans-makes x st i j a b a' b' q s ka kb kq na nb ga gb sa sb rule = elim (chain-of a b q ka kb rule) [
  | inl c ↦ subst (λ z. Makes words.Trans x st z q) (sym (c.1 x.sequents i j))
      (chain-makes x st i j a b a' b' q _ s ka kb kq na ga gb sa sb c.0
      (subst (λ (z : Sequent Name). IsSameSet z.hyps (union names a.hyps b.hyps))
      (sym c.0.is) (self (union names a.hyps b.hyps))))
  | inr c ↦ subst (λ z. Makes words.Trans x st z q) (sym (c.1 x.sequents i j))
      (chain-makes x st j i b a b' a' q _ s kb ka kq nb gb ga sb sa c.0
      (subst (λ (z : Sequent Name). IsSameSet z.hyps (union names b.hyps a.hyps)) (sym c.0.is)
      (swapped a.hyps b.hyps)))
]

-- ---- proveHyp

lemma-makes : (x : Log) (st : LogState Name) (i j : ℕ) (a b a' b' q : Sequent Name) → Stands x st → IsKept a
    → IsKept b → IsKept q
    → slice_get st.sequents i ≡ Some a' → slice_get st.sequents j ≡ Some b' → IsSame names a a' → IsSame names b b'
    → q ≡ proved_hyp names a b → Makes words.ProveHyp x st (prove_hyp_entries x.sequents i j) q
lemma-makes x st i j a b a' b' q s ka kb kq ga gb sa sb e =
    let ka' = kept-same a a' sa ka in
    let kb' = kept-same b b' sb kb in
    let wa = wider a'.hyps ka'.hyps in
    let wb = wider b'.hyps kb'.hyps in
    let g = union names (minus names b'.concl a'.hyps) (minus names a'.concl b'.hyps) in
    let wg = wide-union (minus names b'.concl a'.hyps) (minus names a'.concl b'.hyps)
    (wide-minus b'.concl a'.hyps wa) (wide-minus a'.concl b'.hyps wb) in
    let last : Sequent Name = record { hyps = union names g a'.hyps; concl = b'.concl } in
    let f = discharge-fits names tells_names depth_limit a'.concl b'.concl
    ka'.sequent.concl kb'.sequent.concl (omega arith) ka'.concl kb'.concl in
    let o : Sequent Name = record { hyps = g; concl = equation names (bool_ty names) a'.concl b'.concl } in
    let all = prove_hyp-stands x st a' b' i j s ga gb (within o wg f)
    (within last (wide-union g a'.hyps wg wa) (fits-more names depth_limit wide (omega arith) b'.concl kb'.concl)) in
    let wanted = union names a.hyps (minus names a.concl b.hyps) in
    let one : IsSameSet wanted (union names a'.hyps (minus names a'.concl b'.hyps)) =
    subst (λ z. IsSameSet wanted (union names a'.hyps (minus names z b'.hyps))) sa.concl
    (same-union names tells_names a.hyps a'.hyps (minus names a.concl b.hyps)
    (minus names a.concl b'.hyps) sa.hyps (same-minus names tells_names a.concl b.hyps b'.hyps sb.hyps))
    in
    let hyps : IsSameSet q.hyps last.hyps =
    subst (λ (z : Sequent Name). IsSameSet z.hyps last.hyps) (sym e)
    (same_set-then one (same_set-both_ways (discharge-hyps names tells_names a'.hyps b'.hyps a'.concl b'.concl))) in
    let dg = distinct-union names tells_names (minus names b'.concl a'.hyps) (minus names a'.concl b'.hyps)
    (distinct-minus names tells_names b'.concl a'.hyps sa.right)
    (distinct-minus names tells_names a'.concl b'.hyps sb.right) in
    let low1 = number-low x st i a' s ga in
    let low2 = number-low x st j b' s gb in
    makes-all words.ProveHyp x st (prove_hyp_entries x.sequents i j) q last (o ∷ []) (λ z. cc) all
    (record {
      hyps = hyps;
      concl = ap (λ (z : Sequent Name). z.concl) e ∙ sb.concl;
      left = kq.distinct;
      right = distinct-union names tells_names g a'.hyps dg sa.right;
    }) (
      record { nodes = tt; operands = (low1, (low2, tt)) },
      (record { nodes = tt; operands = (omega arith, (omega (arith, low1), tt)) }, tt),
    )

pub prove_hyp-makes : (x : Log) (st : LogState Name) (i j : ℕ) (a b a' b' q : Sequent Name) → Stands x st → IsKept a
    → IsKept b
    → IsKept q → slice_get st.sequents i ≡ Some a' → slice_get st.sequents j ≡ Some b' → IsSame names a a'
    → IsSame names b b'
    → prove_hyp_rule names a b ≡ Ok q → Makes words.ProveHyp x st (prove_hyp_of x.sequents a b i j) q
prove_hyp-makes x st i j a b a' b' q s ka kb kq ga gb sa sb rule = elim (lemma-of a b q rule) [
  | inl c ↦
      subst (λ z. Makes words.ProveHyp x st z q) (sym (c.1 x.sequents i j))
      (lemma-makes x st i j a b a' b' q s ka kb kq ga gb sa sb c.0)
  | inr c ↦
      subst (λ z. Makes words.ProveHyp x st z q) (sym (c.1 x.sequents i j))
      (lemma-makes x st j i b a b' a' q s kb ka kq gb ga sb sa c.0)
]
