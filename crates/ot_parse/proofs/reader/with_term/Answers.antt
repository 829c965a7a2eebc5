use Rattle.std.proofs.Common.{◌∙◌, ◌++◌, ◌∷◌, [], ap, sym, map, Ok}
use Rattle.ot_logic.specs.PlainTrees.{term_of_tree}
use Rattle.ot_parse.specs.Values.{meant_of}
use Rattle.ot_parse.specs.ReadLines.{kept_of, others, one_more}
use Rattle.std.proofs.lemmas.List.{map-append}
use Rattle.ot_parse.proofs.reader.with_term.Goals as goal

pub returns-in_ok-push-in-Terms-Value : goal.returns-in_ok-push-in-Terms-Value
returns-in_ok-push-in-Terms-Value c =
    ap (λ xs. Ok (map term_of_tree xs)) c.in_ok-push-in-Terms-Value.ensures.items
    ∙ ap Ok (map-append term_of_tree c.without-kept.result.items (c.into_term-term.result ∷ []))
    ∙ ap (λ ts. Ok (ts ++ term_of_tree c.into_term-term.result ∷ [])) c.without-kept.ensures
    ∙ ap (λ t. Ok (others (term_of_tree t) (map term_of_tree c.in-Terms-Value.terms.items) ++ term_of_tree t ∷ []))
    c.into_term-term.ensures
    ∙ (λ i. one_more (kept_of (sym c.in-Terms-Value.is-0 i)) (meant_of (sym c.in-Terms-Value.is-1 i)))
