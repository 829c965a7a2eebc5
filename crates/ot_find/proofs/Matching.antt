-- The computed matches are those of the definition.
use Rattle.std.proofs.Common.{◌≡◌, List, [], ◌∷◌, ◌++◌, Option, Some, None, refl, sym}
use Rattle.std.proofs.Common.{ap, ◌∙◌, subst, append_assoc, append-nil, inl, inr}
use Rattle.std.specs.Prelude.{ℕ}
use Rattle.ot_logic.specs.Names.{Name}
use Rattle.ot_logic.specs.Naming.{names}
use Rattle.ot_logic.specs.Trees.{Tm, Sequent}
use Rattle.ot_logic.specs.Hol.{TypeMap, TermMap}
use Rattle.ot_laws.proofs.Tests.{tells_names}
use Rattle.ot_match.specs.Matching.{matched}
use Rattle.ot_match.proofs.Matches.{matched_is_match, none_match}
use Rattle.ot_find.specs.Matches.{Source, Found, Export, found, matches_in, matches, exports_in, exports_of}
use Rattle.ot_find.specs.Matches.{IsFound, HasNoMatch, AreMatches, MatchesAreThose, MatchesOfOneMore}

module _ (p : Tm Name) where
  -- the matches among exports, whatever their sources
  abbrev among : List Export → List Found
  among [] = []
  among (e ∷ es) = found e.source e.sequent (matched names p e.sequent.concl) ++ among es

  among-append : (xs ys : List Export) → among (xs ++ ys) ≡ among xs ++ among ys
  among-append [] ys = refl
  among-append (e ∷ xs) ys =
      ap (λ fs. found e.source e.sequent (matched names p e.sequent.concl) ++ fs) (among-append xs ys)
      ∙ sym (append_assoc (found e.source e.sequent (matched names p e.sequent.concl)) (among xs) (among ys))

  among-one : (source : List ℕ) (qs : List (Sequent Name)) → among (exports_in source qs) ≡ matches_in p source qs
  among-one source [] = refl
  among-one source (q ∷ qs) = ap (λ fs. found source q (matched names p q.concl) ++ fs) (among-one source qs)

  among-all : (ss : List Source) → among (exports_of ss) ≡ matches p ss
  among-all [] = refl
  among-all (s ∷ ss) =
      let one = among-one s.name s.exports in
      let more = among-all ss in
      among-append (exports_in s.name s.exports) (exports_of ss) ∙ (λ j. one j ++ more j)

  -- what is found for an export, by whether there are maps
  no-maps : (e : Export) → HasNoMatch p e → matched names p e.sequent.concl ≡ None
  no-maps e h = (none_match names tells_names p e.sequent.concl).1 h

  left-out : (e : Export) (fs : List Found) → HasNoMatch p e
      → found e.source e.sequent (matched names p e.sequent.concl) ++ fs ≡ fs
  left-out e fs h = ap (λ o. found e.source e.sequent o ++ fs) (no-maps e h)

  taken : (e : Export) (f : Found) (fs : List Found) → IsFound p e f
      → found e.source e.sequent (matched names p e.sequent.concl) ++ fs ≡ f ∷ fs
  taken e f fs h =
      let maps : matched names p e.sequent.concl ≡ Some (f.types, f.vars) =
      (matched_is_match names tells_names p e.sequent.concl f.types f.vars).1 h.match_ in
      ap (λ o. found e.source e.sequent o ++ fs) maps
      ∙ sym (λ j. (record { source = h.source j; sequent = h.sequent j; types = f.types; vars = f.vars }) ∷ fs)

  are-among : (es : List Export) (fs : List Found) → AreMatches p es fs → fs ≡ among es
  are-among [] [] h = refl
  are-among [] (f ∷ fs) h = absurd h
  are-among (e ∷ es) [] h = are-among es [] h.1 ∙ sym (left-out e (among es) h.0)
  are-among (e ∷ es) (f ∷ fs) (inl h) = ap (λ l. f ∷ l) (are-among es fs h.1) ∙ sym (taken e f (among es) h.0)
  are-among (e ∷ es) (f ∷ fs) (inr h) = are-among es (f ∷ fs) h.1 ∙ sym (left-out e (among es) h.0)

  passed : (e : Export) (es : List Export) (fs : List Found) → HasNoMatch p e → AreMatches p es fs
      → AreMatches p (e ∷ es) fs
  passed e es [] n m = (n, m)
  passed e es (f ∷ fs) n m = inr (n, m)

  among-are : (es : List Export) → AreMatches p es (among es)
  among-are [] = tt
  among-are (e ∷ es) = go (matched names p e.sequent.concl) refl (among-are es)
    where
      go : (o : Option (TypeMap names × TermMap names)) → matched names p e.sequent.concl ≡ o
          → AreMatches p es (among es)
          → AreMatches p (e ∷ es) (found e.source e.sequent o ++ among es)
      go None q m = passed e es (among es) ((none_match names tells_names p e.sequent.concl).0 q) m
      go (Some w) q m =
          inl (
            record {
              source = refl;
              sequent = refl;
              match_ = (matched_is_match names tells_names p e.sequent.concl w.0 w.1).0 q;
            },
            m,
          )

pub matches_are_those : MatchesAreThose
matches_are_those p ss fs = (
  (λ h. are-among p (exports_of ss) fs h ∙ among-all p ss),
  (λ e. subst (AreMatches p (exports_of ss)) (among-all p ss ∙ sym e) (among-are p (exports_of ss))),
)

pub matches_of_one_more : MatchesOfOneMore
matches_of_one_more p [] s = append-nil (matches_in p s.name s.exports)
matches_of_one_more p (r ∷ ss) s =
    ap (λ fs. matches_in p r.name r.exports ++ fs) (matches_of_one_more p ss s)
    ∙ sym (append_assoc (matches_in p r.name r.exports) (matches p ss) (matches_in p s.name s.exports))
