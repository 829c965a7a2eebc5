use Rattle.std.proofs.Common.{rules, ◌≡◌, ◌∙◌, ◌<◌, ◌+◌, ◌-◌, ◌++◌, ◌∷◌, [], suc, List}
use Rattle.std.proofs.Common.{length, map, drop, get_or, Err, refl, sym, ap, subst, arith}
use Rattle.std.specs.Prelude.{◌==◌, Ok, codes, flat_map, position, slice_get, string_bytes}
use Rattle.std.specs.List.{All, list_any}
use Rattle.std.specs.Map.{lookup}
use Rattle.std.specs.Str.{bytes_eq}
use Rattle.std.proofs.lemmas.List.{drop_all, get_or_default}
use Rattle.std.proofs.lemmas.List.Elements.{All-nil}
use Rattle.std.proofs.lemmas.Result.{err_from_is_err_and}
use Rattle.ot_logic.specs.Naming.{IsNameTable}
use Rattle.ot_io.proofs.Keeping.{KeepsFiles-then}
use Rattle.ot_io.proofs.Readings.{Files-none, Files-map, Files-next}
use Rattle.ot_interp.specs.Interpretation.{map_interpretation}
use Rattle.ot_kernel.specs.State.{name_at}
use Rattle.ot_theory.specs.Answers.{theory_of, block_of, blocks_of, tags_of}
use Rattle.ot_blocks.specs.Answers.{plan_of}
use Rattle.ot_blocks.specs.Structure.{block_places}
use Rattle.ot_blocks.specs.declared.fault.StructureFault.TheVariants.{PackageCycle, PackageDepth}
use Rattle.ot_machine.specs.Meaning.{export_of, run_of, IsExportIn}
use Rattle.ot_machine.specs.States.{Export}
use Rattle.ot_machine.specs.declared.machine.Export as code
use Rattle.ot_machine.specs.declared.context.Context.{Context}
use Rattle.ot_machine.specs.Contexts.{context_of, AreCandidatesOf}
use Rattle.ot_machine.proofs.Kept.{grows-on}
use Rattle.ot_machine.proofs.Turning.{grows-same}
use Rattle.ot_machine.proofs.InContext.{context-kept, of_context-kept}
use Rattle.ot_link.specs.Stops.{InStructure}
use Rattle.ot_link.specs.Answers.{setting_of, Comes, ran_of}
use Rattle.ot_link.specs.Planned.{Planned}
use Rattle.ot_link.specs.Renaming.{interpretation_of}
use Rattle.ot_link.specs.Blocks.{Ran, source_at, run_article, run_source, run_block}
use Rattle.ot_link.specs.Link.{none_done, imported, run_at, exports_at, opener, run_theory, run_file}
use Rattle.ot_link.specs.Holding.{given_to, items_of, held_at, done_of}
use Rattle.ot_blocks.specs.Paths.{article_path, package_path}
use Rattle.ot_machine.specs.Lawful.{IsLawfulRun}
use Rattle.ot_machine.specs.Writable.{IsWritable}
use Rattle.ot_link.specs.Lawful.{AreLawfulExports, AreLawfulOnce}
use Rattle.ot_link.specs.Running.{chain_of, first_source, opener_of, source_value, IsRunnable, IsSourceRight}
use Rattle.ot_link.proofs.FileParts.{out-of-memory}
use Rattle.ot_link.proofs.Held.{exports-kept, exports-later, held-done, held-inside}
use Rattle.ot_link.proofs.InBlock.{given-all, block-context, of_block-context}
use Rattle.ot_link.proofs.Runnable.{runnable}
use Rattle.ot_link.proofs.Sequence.{IsLeft, all-left, one-ran, one-stopped, all-ran}
use Rattle.ot_link.proofs.Standing.{block-there, block-all, block-none, place-at}
use Rattle.ot_link.proofs.Standing.{imported-as, imported-inside, exports-as}
use Rattle.ot_link.proofs.Opened.{any-now, open-again, open-deep, open-inside, theory-unplanned, theory-ran}
use Rattle.ot_link.proofs.TheoryFiles.{file-unread, file-unparsed, file-parsed}
use Rattle.ot_link.proofs.Lawful.{stays-as, stays-on, inner-lawful, same-exports-lawful, none-lawful}
use Rattle.ot_link.proofs.Leaving.{left-stopped, left-unmoved, left-passed, left-behind}
use Rattle.ot_link.proofs.Lawful.{place-inside, place-lawful, imported-lawful, context-lawful, held-lawful}
use Rattle.ot_link.proofs.blocks.+linking.Goals as goal

-- ---- a theory file

pub link_file-returns-in_err-text-clause-comes : goal.link_file-returns-in_err-text-clause-comes
link_file-returns-in_err-text-clause-comes g t c =
    let p = err_from_is_err_and c.from_residual.result c.from_residual.ensures.1 in
    let old = c.args.session.now in
    let path = string_bytes c.args.file.now.path in
    rw (p.1, p.2)
    (Files-map _ _ _ (λ folder text. let s = setting_of folder c.args.setting in
    file-unread old.kernel s path
    (run_theory s (opener_of s c.args.file.now) path (context_of old c.args.file.now.outer.now) (run_of old))
    c.in_err-text.field-0.0 (rw c.deref.ensures at (text old.kernel)))
    c.in_err-text.ensures.comes)

pub link_file-returns-in_err-text-clause-left : goal.link_file-returns-in_err-text-clause-left
link_file-returns-in_err-text-clause-left g t c =
    left-unmoved c.requires.ready _ _ c.from_residual.ensures.1
    (c.in_err-text.ensures.symbols c.args.session.now.kernel)

pub link_file-returns-in_err-theory-clause-left : goal.link_file-returns-in_err-theory-clause-left
link_file-returns-in_err-theory-clause-left g t c =
    left-unmoved c.requires.ready _ _ c.from_residual-in_err-theory.ensures.1
    (c.in_err-theory.ensures.symbols c.args.session.now.kernel)

pub link_file-returns-in_err-theory-clause-cause : goal.link_file-returns-in_err-theory-clause-cause
link_file-returns-in_err-theory-clause-cause g t c =
    let p = err_from_is_err_and c.from_residual-in_err-theory.result c.from_residual-in_err-theory.ensures.1 in
    rw (p.1, p.2) (c.in_err-theory.ensures.cause _ _ _ _ _)

pub run_theory-returns-in_err-plan-clause-left : goal.run_theory-returns-in_err-plan-clause-left
run_theory-returns-in_err-plan-clause-left g t c =
    left-unmoved c.requires.ready _ _ c.from_residual.ensures.1
    (c.in_err-plan.ensures.symbols c.args.session.now.kernel)

pub run_theory-returns-in_err-plan-clause-cause : goal.run_theory-returns-in_err-plan-clause-cause
run_theory-returns-in_err-plan-clause-cause g t c =
    let p = err_from_is_err_and c.from_residual.result c.from_residual.ensures.1 in
    rw (p.1, p.2) (c.in_err-plan.ensures.cause _ _ _ _ _)

-- ---- a package

pub open_package-returns-then-is_open-clause-comes : goal.open_package-returns-then-is_open-clause-comes
open_package-returns-then-is_open-clause-comes g t c =
    let old = c.args.session.now in
    let full = c.args.full.now in
    let there = sym c.if-is_open.true ∙ c.is_open.ensures ∙ any-now full c.deref.result.now
    ∙ ap (λ xs. list_any (bytes_eq full) (chain_of xs)) c.deref.ensures.value in
    Files-none _ _ (λ folder. open-again (setting_of folder c.args.setting) (chain_of c.args.file.now.chain.items)
    (string_bytes c.args.file.now.path) c.args.line full
    (context_of old c.args.context.now) (run_of old) c.args.file.now.left there
    ∙ ap (λ q. Err (InStructure q c.args.line PackageCycle))
    (sym (c.in_ok-path.ensures.ok ∙ c.deref-then-is_open.ensures)))

-- ---- a theory file, further on

pub link_file-returns-in_err-theory-clause-comes : goal.link_file-returns-in_err-theory-clause-comes
link_file-returns-in_err-theory-clause-comes g t c =
    let p = err_from_is_err_and c.from_residual-in_err-theory.result c.from_residual-in_err-theory.ensures.1 in
    let old = c.args.session.now in
    let path = string_bytes c.args.file.now.path in
    rw (p.1, p.2)
    (Files-map _ _ _ (λ folder text. let s = setting_of folder c.args.setting in
    file-unparsed old.kernel s path
    (run_theory s (opener_of s c.args.file.now) path (context_of old c.args.file.now.outer.now) (run_of old))
    c.in_ok-text.text.items (rw c.deref.ensures at (text old.kernel)) c.in_err-theory.field-0.0
    (rw (c.deref-2.ensures, c.deref-3.ensures.value) at (c.in_err-theory.ensures.comes old.kernel)))
    c.in_ok-text.ensures.comes)

pub link_file-returns-clause-comes : goal.link_file-returns-clause-comes
link_file-returns-clause-comes g t c =
    let old = c.args.session.now in
    let mid = c.run_theory.new.session in
    let path = string_bytes c.args.file.now.path in
    Files-next c.theory_text.ensures.kept c.in_ok-text.ensures.comes c.run_theory.ensures.comes
    (λ folder text ran. let s = setting_of folder c.args.setting in
    file-parsed mid.kernel s path
    (run_theory s (opener_of s c.args.file.now) path (context_of old c.args.file.now.outer.now) (run_of old))
    c.in_ok-text.text.items (rw c.deref.ensures at (text old.kernel))
    (theory_of c.in_ok-theory.theory) (ran_of mid) c.run_theory.result
    (rw (c.deref-2.ensures, c.deref-3.ensures.value) at (c.in_ok-theory.ensures.comes old.kernel)) ran)

pub run_theory-returns-in_err-plan-clause-comes : goal.run_theory-returns-in_err-plan-clause-comes
run_theory-returns-in_err-plan-clause-comes g t c =
    let p = err_from_is_err_and c.from_residual.result c.from_residual.ensures.1 in
    let old = c.args.session.now in
    rw (p.1, p.2)
    (Files-none _ _ (λ folder. theory-unplanned old.kernel (setting_of folder c.args.setting)
    (opener_of (setting_of folder c.args.setting) c.args.file.now) (string_bytes c.args.file.now.path)
    (context_of old c.args.file.now.outer.now) (run_of old) (theory_of c.args.theory.now)
    c.in_err-plan.field-0.0
    (rw (c.deref.ensures, c.deref-2.ensures.value) at (c.in_err-plan.ensures.comes old.kernel))))

pub run_theory-returns-clause-comes : goal.run_theory-returns-clause-comes
run_theory-returns-clause-comes g t c =
    let old = c.args.session.now in
    let mid = c.run_blocks.new.session in
    Files-map _ _ _ (λ folder ran. theory-ran mid.kernel (setting_of folder c.args.setting)
    (opener_of (setting_of folder c.args.setting) c.args.file.now) (string_bytes c.args.file.now.path)
    (context_of old c.args.file.now.outer.now) (run_of old) (theory_of c.args.theory.now)
    (plan_of c.in_ok-plan.plan) (ran_of mid) c.run_blocks.result
    (rw (c.deref.ensures, c.deref-2.ensures.value) at (c.in_ok-plan.ensures.comes old.kernel)) ran)
    (rw c.deref-3.ensures.value at c.run_blocks.ensures.comes)

-- ---- a package, further on

pub open_package-returns-then-file-eq0-clause-comes : goal.open_package-returns-then-file-eq0-clause-comes
open_package-returns-then-file-eq0-clause-comes g t c =
    let old = c.args.session.now in
    let full = c.args.full.now in
    let absent = sym c.if-is_open.false ∙ c.is_open.ensures ∙ any-now full c.deref.result.now
    ∙ ap (λ xs. list_any (bytes_eq full) (chain_of xs)) c.deref.ensures.value in
    Files-none _ _ (λ folder. open-deep (setting_of folder c.args.setting) (chain_of c.args.file.now.chain.items)
    (string_bytes c.args.file.now.path) c.args.line full
    (context_of old c.args.context.now) (run_of old) c.args.file.now.left c.if-file-eq0.true absent
    ∙ ap (λ q. Err (InStructure q c.args.line PackageDepth))
    (sym (c.in_ok-path-2.ensures.ok ∙ c.deref-then-file-eq0.ensures)))

pub open_package-returns-clause-comes : goal.open_package-returns-clause-comes
open_package-returns-clause-comes g t c =
    let old = c.args.session.now in
    let mid = c.link_file.new.session in
    let full = c.args.full.now in
    let left = c.args.file.now.left in
    let context = context_of old c.args.context.now in
    let absent = sym c.if-is_open.false ∙ c.is_open.ensures ∙ any-now full c.deref.result.now
    ∙ ap (λ xs. list_any (bytes_eq full) (chain_of xs)) c.deref.ensures.value in
    let more : left ≡ suc (left - 1) = omega arith in
    let chain : chain_of c.in_ok-chain.chain.items ≡ chain_of c.args.file.now.chain.items ++ full ∷ [] =
    c.in_ok-chain.ensures ∙ ap (λ xs. chain_of xs ++ full ∷ []) c.deref-2.ensures.value in
    let path : string_bytes c.in_ok-path-3.path ≡ package_path c.args.setting.packages.now full =
    c.in_ok-path-3.ensures in
    Files-map _ _ _ (λ folder ran.
    let s = setting_of folder c.args.setting in
    let same : run_file s (opener (left - 1) s (chain_of c.in_ok-chain.chain.items) (string_bytes c.in_ok-path-3.path)) (string_bytes c.in_ok-path-3.path) context (run_of old)
    ≡ run_file s
    (opener (left - 1) s (chain_of c.args.file.now.chain.items ++ full ∷ [])
    (package_path c.args.setting.packages.now full)) (package_path c.args.setting.packages.now full) context
    (run_of old) =
    λ i. run_file s (opener (left - 1) s (chain i) (path i)) (path i) context (run_of old) in
    subst (Comes mid.kernel (ran_of mid) c.link_file.result)
    (same ∙ sym (open-inside s (chain_of c.args.file.now.chain.items) (string_bytes c.args.file.now.path) c.args.line
    full context (run_of old) left (left - 1) more absent)) ran)
    c.link_file.ensures.comes

-- ---- running out of memory

pub open_package-returns-in_err-path-clause-comes : goal.open_package-returns-in_err-path-clause-comes
open_package-returns-in_err-path-clause-comes g t c =
    out-of-memory c.args.session.now.kernel _ _ _ c.from_residual.ensures.1

pub open_package-returns-in_err-path-2-clause-comes : goal.open_package-returns-in_err-path-2-clause-comes
open_package-returns-in_err-path-2-clause-comes g t c =
    out-of-memory c.args.session.now.kernel _ _ _ c.from_residual-in_err-path-2.ensures.1

pub open_package-returns-in_err-path-3-clause-comes : goal.open_package-returns-in_err-path-3-clause-comes
open_package-returns-in_err-path-3-clause-comes g t c =
    out-of-memory c.args.session.now.kernel _ _ _ c.from_residual-in_err-path-3.ensures.1

pub open_package-returns-in_err-chain-clause-comes : goal.open_package-returns-in_err-chain-clause-comes
open_package-returns-in_err-chain-clause-comes g t c =
    out-of-memory c.args.session.now.kernel _ _ _ c.from_residual-in_err-chain.ensures.1

pub run_block-returns-in_err-own-clause-comes : goal.run_block-returns-in_err-own-clause-comes
run_block-returns-in_err-own-clause-comes g t c =
    out-of-memory c.interpretation_of.new.session.kernel _ _ _ c.from_residual.ensures.1

pub run_block-returns-in_err-interp-clause-comes : goal.run_block-returns-in_err-interp-clause-comes
run_block-returns-in_err-interp-clause-comes g t c =
    out-of-memory c.interpretation_of.new.session.kernel _ _ _ c.from_residual-in_err-interp.ensures.1

pub run_next-returns-in_err-imports-clause-comes : goal.run_next-returns-in_err-imports-clause-comes
run_next-returns-in_err-imports-clause-comes g t c =
    out-of-memory c.args.session.now.kernel _ _ _ c.from_residual.ensures.1

pub run_source-returns-in_err-path-in-Article-clause-comes : goal.run_source-returns-in_err-path-in-Article-clause-comes
run_source-returns-in_err-path-in-Article-clause-comes g t c =
    out-of-memory c.args.session.now.kernel _ _ _ c.from_residual.ensures.1

pub run_source-returns-in_err-once-in-Imports-clause-comes : goal.run_source-returns-in_err-once-in-Imports-clause-comes
run_source-returns-in_err-once-in-Imports-clause-comes g t c =
    out-of-memory c.args.session.now.kernel _ _ _ c.from_residual-in_err-once-in-Imports.ensures.1

pub run_block-returns-in_err-theorems-clause-comes : goal.run_block-returns-in_err-theorems-clause-comes
run_block-returns-in_err-theorems-clause-comes g t c =
    out-of-memory c.interpretation_of.new.session.kernel _ _ _ c.from_residual-in_err-theorems.ensures.1

pub run_block-returns-in_err-theorems-clause-cause : goal.run_block-returns-in_err-theorems-clause-cause
run_block-returns-in_err-theorems-clause-cause g t c =
    let p = err_from_is_err_and c.from_residual-in_err-theorems.result c.from_residual-in_err-theorems.ensures.1 in
    rw (p.1, p.2) tt

pub run_block-returns-in_err-candidates-clause-comes : goal.run_block-returns-in_err-candidates-clause-comes
run_block-returns-in_err-candidates-clause-comes g t c =
    out-of-memory c.interpretation_of.new.session.kernel _ _ _ c.from_residual-in_err-candidates.ensures.1

pub run_block-returns-in_err-candidates-clause-cause : goal.run_block-returns-in_err-candidates-clause-cause
run_block-returns-in_err-candidates-clause-cause g t c =
    let p = err_from_is_err_and c.from_residual-in_err-candidates.result c.from_residual-in_err-candidates.ensures.1 in
    rw (p.1, p.2) tt

-- ---- a theory file's blocks, and a block's file

pub run_theory-run_blocks-requires : goal.run_theory-run_blocks-requires
run_theory-run_blocks-requires g t c κs within =
    let blocks = runnable (theory_of c.args.theory.now) (plan_of c.in_ok-plan.plan) c.requires.sound
    (rw c.deref-2.ensures.value at c.in_ok-plan.ensures.sound) in
    let right : All IsRunnable (blocks_of c.deref-3.result.now) = rw c.deref-3.ensures.value blocks in (
      omega arith,
      (
        within,
        (
          c.requires.limits,
          (c.requires.ready, right),
        ),
      ),
    )

pub run_block-candidates_of-requires : goal.run_block-candidates_of-requires
run_block-candidates_of-requires g t c =
    given-all c.args.session.now c.interpretation_of.new.session c.requires.ready.session c.in_ok-own.ensures.grown
    c.args.file.now.outer.now c.args.imports.now c.deref-2.result.now c.requires.ready.context c.requires.imports
    (c.deref-2.ensures.value ∙ c.in_ok-theorems.ensures)

pub run_block-run_source-requires : goal.run_block-run_source-requires
run_block-run_source-requires g t c κs within =
    let old = c.args.session.now in
    let mid = c.interpretation_of.new.session in
    let kept = c.in_ok-own.ensures.grown in
    let outer = c.args.file.now.outer.now in
    let imports = c.args.imports.now in
    let statements = tags_of c.args.block.now.statements.items in
    let named : map_interpretation (name_at mid.kernel) c.in_ok-own.own ≡ interpretation_of statements =
    rw c.deref.ensures.value at c.in_ok-own.ensures.names in
    let given : c.deref-3.result.now ≡ map given_to imports ++ outer.theorems.now = c.deref-3.ensures.value
    ∙ c.in_ok-theorems.ensures in
    let symbols = c.in_ok-interp.ensures.within (length mid.kernel.names) c.in_ok-own.ensures.within
    (of_context-kept old mid c.requires.ready.session kept outer c.requires.ready.context).interpretation in
    let source : source_value c.source_of.result ≡ source_at (first_source statements) = c.source_of.ensures
    ∙ ap (λ ts. source_at (first_source (tags_of ts))) c.deref-4.ensures.value in
    let inner : Context =
    record {
      interp = record { ref_ptr = outer.interp.ref_ptr; now = c.in_ok-interp.interp };
      theorems = c.deref-3.result;
      candidates =
          record { ref_ptr = outer.candidates.ref_ptr; now = c.in_ok-candidates.candidates };
    } in
    let same_theorems = c.deref-2.ensures.value ∙ sym c.deref-3.ensures.value in
    let candidates =
    subst (λ gs. AreCandidatesOf mid gs c.in_ok-candidates.candidates) same_theorems c.in_ok-candidates.ensures in
    let context = of_block-context old mid c.requires.ready.session kept outer _ c.in_ok-own.own statements imports
    c.requires.ready.context c.in_ok-own.ensures.within named c.in_ok-interp.ensures.pairs given c.requires.imports
    symbols candidates in
    let same = block-context old mid c.requires.ready.session kept outer inner c.in_ok-own.own statements imports
    c.requires.ready.context c.in_ok-own.ensures.within named c.in_ok-interp.ensures.pairs given c.requires.imports
    (subst (λ state. IsNameTable state.names) c.kernel.ensures c.sound.ensures.names) in
    let run = subst (IsLawfulRun IsWritable) (sym c.in_ok-own.ensures.run) c.requires.ready.lawful in
    let theorems = inner-lawful old mid outer _ statements imports c.in_ok-own.ensures.run same c.naming_law.ensures
    c.requires.block.statements c.requires.ready.lawful_context c.requires.lawful_imports in
    let lawful = same-exports-lawful old mid c.requires.ready.session kept c.in_ok-own.ensures.run imports
    c.requires.imports c.requires.lawful_imports in (
      omega arith,
      (
        within,
        (
          c.requires.limits,
          (
            record {
              session = c.in_ok-own.ensures.session;
              lawful = run;
              context = context;
              lawful_context = theorems;
            },
            (
              subst IsSourceRight (sym source) c.requires.block.source,
              (exports-later old mid kept imports c.requires.imports, lawful),
            ),
          ),
        ),
      ),
    )

pub run_block-returns-clause-comes : goal.run_block-returns-clause-comes
run_block-returns-clause-comes g t c =
    let old = c.args.session.now in
    let mid = c.interpretation_of.new.session in
    let new = c.run_source.new.session in
    let kept = c.in_ok-own.ensures.grown in
    let outer = c.args.file.now.outer.now in
    let imports = c.args.imports.now in
    let statements = tags_of c.args.block.now.statements.items in
    let named : map_interpretation (name_at mid.kernel) c.in_ok-own.own ≡ interpretation_of statements =
    rw c.deref.ensures.value at c.in_ok-own.ensures.names in
    let given : c.deref-3.result.now ≡ map given_to imports ++ outer.theorems.now = c.deref-3.ensures.value
    ∙ c.in_ok-theorems.ensures in
    let source : source_value c.source_of.result ≡ source_at (first_source statements) = c.source_of.ensures
    ∙ ap (λ ts. source_at (first_source (tags_of ts))) c.deref-4.ensures.value in
    let inner : Context =
    record {
      interp = record { ref_ptr = outer.interp.ref_ptr; now = c.in_ok-interp.interp };
      theorems = c.deref-3.result;
      candidates =
          record { ref_ptr = outer.candidates.ref_ptr; now = c.in_ok-candidates.candidates };
    } in
    let context = block-context old mid c.requires.ready.session kept outer inner c.in_ok-own.own statements imports
    c.requires.ready.context c.in_ok-own.ensures.within named c.in_ok-interp.ensures.pairs given c.requires.imports
    (subst (λ state. IsNameTable state.names) c.kernel.ensures c.sound.ensures.names) in
    let same = exports-kept old mid kept c.requires.ready.session imports c.requires.imports in
    let run = c.in_ok-own.ensures.run in
    Files-map _ _ _ (λ folder ran.
    let s = setting_of folder c.args.setting in
    let path = string_bytes c.args.file.now.path in
    let to : run_source s (opener_of s c.args.file.now) path (map (export_of mid) imports) (source_value c.source_of.result) (context_of mid inner) (run_of mid)
    ≡ run_block s (opener_of s c.args.file.now) path (context_of old outer) (block_of c.args.block.now)
    (map (export_of old) imports) (run_of old) =
    λ i. run_source s (opener_of s c.args.file.now) path (same i) (source i) (context i) (run i) in
    subst (Comes new.kernel (ran_of new) c.run_source.result) to ran)
    c.run_source.ensures.comes

-- ---- blocks in their order

pub run_blocks-returns-in_err-exports-clause-comes : goal.run_blocks-returns-in_err-exports-clause-comes
run_blocks-returns-in_err-exports-clause-comes g t c =
    let p = err_from_is_err_and c.from_residual.result c.from_residual.ensures.1 in
    let old = c.args.session.now in
    let mid = c.each.session in
    let new = c.run_next.new.session in
    let outer = c.args.file.now.outer.now in
    let order = c.args.plan.now.order.items in
    let b = get_or c.deref-place-items.result.now c.each.place-index 0 in
    let lt : c.each.place-index < length order =
    omega (arith, c.each-test.true, ap length c.deref-place-items.ensures.value) in
    let is : b ≡ get_or order c.each.place-index b = ap (λ xs. get_or xs c.each.place-index 0)
    c.deref-place-items.ensures.value ∙ get_or_default order c.each.place-index 0 b lt in
    rw (p.1, p.2)
    (Files-next c.each.invariant.kept c.each.invariant.left c.in_err-exports.ensures.comes
    (λ folder left stopped.
    let s = setting_of folder c.args.setting in
    one-stopped s (opener_of s c.args.file.now) (string_bytes c.args.file.now.path) (context_of old outer)
    (record { blocks = blocks_of c.args.blocks.now; plan = plan_of c.args.plan.now }) (run_of old)
    c.each.place-index b (done_of mid c.each.done) (run_of mid) lt is left
    (context_of mid outer)
    (context-kept old mid c.requires.ready.session c.each.invariant.grown outer c.requires.ready.context)
    new.kernel c.in_err-exports.field-0.0 stopped))

pub run_blocks-each-init : goal.run_blocks-each-init
run_blocks-each-init g t c = record {
  grown = grows-same c.args.session.now;
  session = c.requires.ready.session;
  inside = search rules;
  lawful = stays-as c.args.session.now c.args.session.now refl c.requires.ready.lawful;
  exports = search rules;
  kept = record { same_folder = refl; later = omega arith; later_misses = omega arith };
  left = Files-none _ _ (λ folder.
      let s = setting_of folder c.args.setting in
      let old = c.args.session.now in
      let f : Planned = record { blocks = blocks_of c.args.blocks.now; plan = plan_of c.args.plan.now } in
      let opener = opener_of s c.args.file.now in
      let path = string_bytes c.args.file.now.path in
      let outer = context_of old c.args.file.now.outer.now in
      let none : done_of old c.new-done.result ≡ none_done =
      λ i b. ap (λ es. map (export_of old) (items_of (lookup (λ key. b == key) es))) c.new-done.ensures.empty i in
      subst (λ done. IsLeft s opener path outer f (run_of old) 0 done (run_of old)) (sym none)
      (all-left s opener path outer f (run_of old)));
}

pub run_blocks-each-preserved : goal.run_blocks-each-preserved
run_blocks-each-preserved g t c =
    let old = c.args.session.now in
    let mid = c.each.session in
    let new = c.run_next.new.session in
    let outer = c.args.file.now.outer.now in
    let kept = c.in_ok-exports.ensures.left.grown in
    let order = c.args.plan.now.order.items in
    let b = get_or c.deref-place-items.result.now c.each.place-index 0 in
    let lt : c.each.place-index < length order =
    omega (arith, c.each-test.true, ap length c.deref-place-items.ensures.value) in
    let is : b ≡ get_or order c.each.place-index b = ap (λ xs. get_or xs c.each.place-index 0)
    c.deref-place-items.ensures.value ∙ get_or_default order c.each.place-index 0 b lt in
    record {
      grown = grows-on c.each.invariant.grown kept;
      inside = held-inside mid new c.each.invariant.session kept c.each.done c.insert.new.self b
          c.in_ok-exports.exports c.in_ok-insert.ensures.updates.0 c.each.invariant.inside
          c.in_ok-exports.ensures.left.exports;
      session = c.in_ok-exports.ensures.left.session;
      lawful = stays-on c.each.invariant.lawful c.in_ok-exports.ensures.left.lawful;
      exports = held-lawful mid new c.each.invariant.session kept c.stays_law.ensures.written
          c.in_ok-exports.ensures.left.lawful.larger c.each.done c.insert.new.self b c.in_ok-exports.exports
          c.in_ok-insert.ensures.updates.0
          c.each.invariant.inside c.each.invariant.exports c.in_ok-exports.ensures.left.lawful_exports;
      kept = KeepsFiles-then c.each.invariant.kept c.in_ok-exports.ensures.kept;
      left = Files-next c.each.invariant.kept c.each.invariant.left c.in_ok-exports.ensures.comes
          (λ folder left ran.
          let s = setting_of folder c.args.setting in
          let f : Planned = record { blocks = blocks_of c.args.blocks.now; plan = plan_of c.args.plan.now } in
          subst (λ done. IsLeft s (opener_of s c.args.file.now) (string_bytes c.args.file.now.path)
          (context_of old outer) f (run_of old) (c.each.place-index + 1) done (run_of new))
          (sym (held-done mid new c.each.invariant.session kept c.each.done c.insert.new.self b
          c.in_ok-exports.exports c.in_ok-insert.ensures.updates.0 c.each.invariant.inside))
          (one-ran s (opener_of s c.args.file.now) (string_bytes c.args.file.now.path) (context_of old outer) f
          (run_of old)
          c.each.place-index b (done_of mid c.each.done) (run_of mid) lt is left
          (context_of mid outer)
          (context-kept old mid c.requires.ready.session c.each.invariant.grown outer c.requires.ready.context)
          (ran_of new c.in_ok-exports.exports) ran));
    }

pub run_blocks-returns-clause-comes : goal.run_blocks-returns-clause-comes
run_blocks-returns-clause-comes g t c =
    let old = c.args.session.now in
    let mid = c.each.session in
    let outer = c.args.file.now.outer.now in
    let blocks = c.args.blocks.now in
    let order = c.args.plan.now.order.items in
    let none : drop c.each.place-index order ≡ [] = drop_all c.each.place-index order
    (omega (arith, c.each-test.false, ap length c.deref-place-items.ensures.value)) in
    let exports : exports_at (done_of mid c.each.done) (block_places (blocks_of blocks) (codes "main")) ≡ map (export_of mid) c.in_ok-exports-2.exports.items =
    ap (exports_at (done_of mid c.each.done)) (place-at blocks (codes "main"))
    ∙ sym (exports-as mid c.each.done (position (λ b. bytes_eq b.name.now (codes "main")) blocks))
    ∙ ap (map (export_of mid)) (sym c.in_ok-exports-2.ensures) in
    let ran : List Export → Ran = λ es. record { exports = es; run = run_of mid } in
    Files-map _ _ _ (λ folder left.
    let s = setting_of folder c.args.setting in
    all-ran s (opener_of s c.args.file.now) (string_bytes c.args.file.now.path) (context_of old outer)
    (record { blocks = blocks_of blocks; plan = plan_of c.args.plan.now }) (run_of old)
    c.each.place-index (done_of mid c.each.done) (run_of mid) none left
    ∙ ap (λ es. Ok (ran es)) exports)
    c.each.invariant.left

-- ---- the next block

pub run_next-run_block-requires : goal.run_next-run_block-requires
run_next-run_block-requires g t c κs within =
    let old = c.args.session.now in
    let item = c.in-Some.ensures.lookup in
    let imports : c.deref.result.now ≡ flat_map (held_at c.args.done.now) c.imports_at.result.now =
    c.deref.ensures.value ∙ c.in_ok-imports.ensures in
    let inside : All (IsExportIn old) c.deref.result.now =
    rw imports (imported-inside old c.args.done.now c.requires.done c.imports_at.result.now) in
    let lawful : AreLawfulExports old c.deref.result.now =
    rw imports (imported-lawful old c.args.done.now c.requires.lawful_done c.imports_at.result.now) in
    let right = block-all c.args.blocks.now c.args.place c.in-Some.block.now item.3.0 item.1 IsRunnable
    c.requires.blocks in (
      omega arith,
      (
        within,
        (
          c.requires.limits,
          (c.requires.ready, (right, (inside, lawful))),
        ),
      ),
    )

pub run_next-returns-in-Some-clause-comes : goal.run_next-returns-in-Some-clause-comes
run_next-returns-in-Some-clause-comes g t c =
    let old = c.args.session.now in
    let new = c.run_block.new.session in
    let item = c.in-Some.ensures.lookup in
    let blocks = blocks_of c.args.blocks.now in
    let outer = context_of old c.args.file.now.outer.now in
    let path = string_bytes c.args.file.now.path in
    let there = block-there c.args.blocks.now c.args.place c.in-Some.block.now item.3.0 item.1 in
    let imports : map (export_of old) c.deref.result.now ≡ imported (plan_of c.args.plan.now).imports (done_of old c.args.done.now) c.args.place =
    ap (map (export_of old)) (c.deref.ensures.value ∙ c.in_ok-imports.ensures) ∙ imported-as old c.args.done.now
    c.imports_at.result.now ∙ ap (flat_map (done_of old c.args.done.now)) c.imports_at.ensures in
    Files-map _ _ _ (λ folder ran.
    let s = setting_of folder c.args.setting in
    let to : run_block s (opener_of s c.args.file.now) path outer (block_of c.in-Some.block.now) (map (export_of old) c.deref.result.now) (run_of old)
    ≡ run_at s (opener_of s c.args.file.now) path outer
    (imported (plan_of c.args.plan.now).imports (done_of old c.args.done.now) c.args.place)
    (slice_get blocks c.args.place) (run_of old) =
    ap (λ es. run_block s (opener_of s c.args.file.now) path outer (block_of c.in-Some.block.now) es (run_of old))
    imports
    ∙ ap (λ o. run_at s (opener_of s c.args.file.now) path outer
    (imported (plan_of c.args.plan.now).imports (done_of old c.args.done.now) c.args.place) o (run_of old))
    (sym there) in
    subst (Comes new.kernel (ran_of new) c.run_block.result) to ran)
    c.run_block.ensures.comes

pub run_next-returns-clause-comes : goal.run_next-returns-clause-comes
run_next-returns-clause-comes g t c =
    let old = c.args.session.now in
    let outer = context_of old c.args.file.now.outer.now in
    let path = string_bytes c.args.file.now.path in
    let none = block-none c.args.blocks.now c.args.place c.in-None.ensures.lookup.3 in
    let ran : List code.Export → Ran = λ es. record { exports = map (export_of old) es; run = run_of old } in
    Files-none _ _ (λ folder.
    let s = setting_of folder c.args.setting in
    ap (λ o. (run_at s (opener_of s c.args.file.now) path outer
    (imported (plan_of c.args.plan.now).imports (done_of old c.args.done.now) c.args.place) o
    (run_of old)).answer) none
    ∙ ap (λ es. Ok (ran es)) (sym c.new.ensures.items))

-- ---- an article

pub run_source-returns-in_ok-path-in-Article-clause-comes : goal.run_source-returns-in_ok-path-in-Article-clause-comes
run_source-returns-in_ok-path-in-Article-clause-comes g t c =
    let old = c.args.session.now in
    let new = c.open_article.new.session in
    let context = context_of old c.args.context.now in
    let imports = map (export_of old) c.args.imports.now in
    let path = string_bytes c.args.file.now.path in
    Files-map _ _ _ (λ folder ran.
    let s = setting_of folder c.args.setting in
    let to : run_article s (string_bytes c.in_ok-path-in-Article.path) context (run_of old) ≡ run_source s (opener_of s c.args.file.now) path imports (source_value c.args.source) context (run_of old) =
    ap (λ q. run_article s q context (run_of old))
    (c.in_ok-path-in-Article.ensures ∙ ap (λ q. article_path q c.in-Article.value.now) c.deref.ensures)
    ∙ ap (λ source. run_source s (opener_of s c.args.file.now) path imports (source_value source) context
    (run_of old)) (sym c.in-Article.is) in
    subst (Comes new.kernel (ran_of new) c.open_article.result) to ran)
    c.open_article.ensures.comes

-- ---- a block's imports

pub run_source-returns-in_ok-once-in-Imports-clause-comes : goal.run_source-returns-in_ok-once-in-Imports-clause-comes
run_source-returns-in_ok-once-in-Imports-clause-comes g t c =
    let old = c.args.session.now in
    let context = context_of old c.args.context.now in
    let imports = map (export_of old) c.args.imports.now in
    let path = string_bytes c.args.file.now.path in
    let ran : List Export → Ran = λ es. record { exports = es; run = run_of old } in
    Files-none _ _ (λ folder.
    let s = setting_of folder c.args.setting in
    ap (λ source. (run_source s (opener_of s c.args.file.now) path imports (source_value source) context
    (run_of old)).answer) c.in-Imports.is
    ∙ ap (λ es. Ok (ran es)) (sym c.in_ok-once-in-Imports.ensures.once))

-- ---- lawful sessions

pub run_source-returns-in_ok-once-in-Imports-clause-left : goal.run_source-returns-in_ok-once-in-Imports-clause-left
run_source-returns-in_ok-once-in-Imports-clause-left g t c =
    left-passed c.requires.ready _ c.in_ok-once-in-Imports.ensures.inside
    (c.in_ok-once-in-Imports.ensures.lawful c.requires.lawful_imports)

pub run_block-returns-in_err-own-clause-left : goal.run_block-returns-in_err-own-clause-left
run_block-returns-in_err-own-clause-left g t c =
    left-stopped _ _ c.from_residual.ensures.1 tt c.in_err-own.ensures.grown c.in_err-own.ensures.session
    (stays-as c.args.session.now c.interpretation_of.new.session c.in_err-own.ensures.run c.requires.ready.lawful)

pub run_block-returns-in_err-interp-clause-left : goal.run_block-returns-in_err-interp-clause-left
run_block-returns-in_err-interp-clause-left g t c =
    left-stopped _ _ c.from_residual-in_err-interp.ensures.1 tt c.in_ok-own.ensures.grown c.in_ok-own.ensures.session
    (stays-as c.args.session.now c.interpretation_of.new.session c.in_ok-own.ensures.run c.requires.ready.lawful)

pub run_block-returns-in_err-theorems-clause-left : goal.run_block-returns-in_err-theorems-clause-left
run_block-returns-in_err-theorems-clause-left g t c =
    left-stopped _ _ c.from_residual-in_err-theorems.ensures.1 tt c.in_ok-own.ensures.grown
    c.in_ok-own.ensures.session
    (stays-as c.args.session.now c.interpretation_of.new.session c.in_ok-own.ensures.run c.requires.ready.lawful)

pub run_block-returns-in_err-candidates-clause-left : goal.run_block-returns-in_err-candidates-clause-left
run_block-returns-in_err-candidates-clause-left g t c =
    left-stopped _ _ c.from_residual-in_err-candidates.ensures.1 tt c.in_ok-own.ensures.grown c.in_ok-own.ensures.session
    (stays-as c.args.session.now c.interpretation_of.new.session c.in_ok-own.ensures.run c.requires.ready.lawful)

pub run_block-returns-clause-left : goal.run_block-returns-clause-left
run_block-returns-clause-left g t c =
    left-behind c.in_ok-own.ensures.grown
    (stays-as c.args.session.now c.interpretation_of.new.session c.in_ok-own.ensures.run c.requires.ready.lawful)
    c.run_source.ensures.left

pub run_next-returns-clause-left : goal.run_next-returns-clause-left
run_next-returns-clause-left g t c =
    let s = c.args.session.now in
    left-passed c.requires.ready c.new.result
    (subst (All (IsExportIn s)) (sym c.new.ensures.items) (All-nil (IsExportIn s)))
    (subst (AreLawfulOnce s) (sym c.new.ensures.items) (none-lawful s))

pub run_blocks-run_next-requires : goal.run_blocks-run_next-requires
run_blocks-run_next-requires g t c κs within =
    let old = c.args.session.now in
    let mid = c.each.session in
    let outer = c.args.file.now.outer.now in
    let grown = c.each.invariant.grown in
    let context = of_context-kept old mid c.requires.ready.session grown outer c.requires.ready.context in
    let lawful_context = context-lawful old mid c.requires.ready.session grown c.stays_law.ensures.written
    c.each.invariant.lawful.larger outer c.requires.ready.context c.requires.ready.lawful_context in (
      omega arith,
      (
        within,
        (
          c.requires.limits,
          (
            record {
              session = c.each.invariant.session;
              lawful = c.each.invariant.lawful.run;
              context = context;
              lawful_context = lawful_context;
            },
            (c.requires.blocks, (c.each.invariant.inside, c.each.invariant.exports)),
          ),
        ),
      ),
    )

pub run_blocks-returns-in_err-exports-clause-left : goal.run_blocks-returns-in_err-exports-clause-left
run_blocks-returns-in_err-exports-clause-left g t c =
    let left = c.in_err-exports.ensures.left in
    left-stopped _ _ c.from_residual.ensures.1 left.symbols (grows-on c.each.invariant.grown left.grown) left.session
    (stays-on c.each.invariant.lawful left.lawful)

pub run_blocks-returns-in_err-insert-clause-left : goal.run_blocks-returns-in_err-insert-clause-left
run_blocks-returns-in_err-insert-clause-left g t c =
    let left = c.in_ok-exports.ensures.left in
    left-stopped _ _ c.from_residual-in_err-insert.ensures.1 tt (grows-on c.each.invariant.grown left.grown)
    left.session (stays-on c.each.invariant.lawful left.lawful)

pub run_blocks-returns-clause-left : goal.run_blocks-returns-clause-left
run_blocks-returns-clause-left g t c =
    let mid = c.each.session in
    let place = position (λ b. bytes_eq b.name.now (codes "main")) c.args.blocks.now in
    record {
      exports = subst (All (IsExportIn mid)) (sym c.in_ok-exports-2.ensures)
          (place-inside mid c.each.done c.each.invariant.inside place);
      symbols = tt;
      grown = c.each.invariant.grown;
      session = c.each.invariant.session;
      lawful = c.each.invariant.lawful;
      lawful_exports = subst (AreLawfulOnce mid) (sym c.in_ok-exports-2.ensures)
          (place-lawful mid c.each.done c.each.invariant.exports place);
    }
