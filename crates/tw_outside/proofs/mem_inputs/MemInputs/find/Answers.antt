use Rattle.std.proofs.Common.{ap, sym, ◌∙◌, map, ℕ, List}
use Rattle.std.specs.Prelude.{Some}
use Rattle.std.specs.Str.{bytes_eq}
use Rattle.std.specs.Ordering.{nat_cmp}
use Rattle.std.specs.Cmp.Lexicographic.{slice_cmp, nat_list_cmp_total}
use Rattle.std.specs.FinMap.{find, get-from_entries}
use Rattle.std.specs.String.{string_bytes}
use Rattle.tw_outside.proofs.Stored.{find-here, find-later}
use Rattle.tw_outside.proofs.mem_inputs.MemInputs.find.Goals as goal

pub loop-file-init : goal.loop-file-init
loop-file-init c =
    get-from_entries nat_list_cmp_total _ _
    ∙ ap (λ files. find (slice_cmp nat_cmp) c.args.name.now (map (λ file. (string_bytes file.name, file.bytes.items))
    files)) (sym c.into_iter-file-iterator.ensures.into_iter_gives.0)

pub returns-then-eq : goal.returns-then-eq
returns-then-eq c = sym (
    c.loop-file.invariant
    ∙ ap (λ files. find (slice_cmp nat_cmp) c.args.name.now (map (λ file. (string_bytes file.name, file.bytes.items))
    files)) c.in-Some.ensures.steps
    ∙ find-here c.args.name.now (string_bytes c.in-Some.file.now.name, c.in-Some.file.now.bytes.items) _
    (c.if-eq.ensures ∙ ap (bytes_eq c.args.name.now) c.as_str.ensures.value)
    ∙ ap (λ (bytes : List ℕ). Some bytes) (sym c.as_slice.ensures.value))

pub loop-file-preserved : goal.loop-file-preserved
loop-file-preserved c =
    c.loop-file.invariant
    ∙ ap (λ files. find (slice_cmp nat_cmp) c.args.name.now (map (λ file. (string_bytes file.name, file.bytes.items))
    files)) c.in-Some.ensures.steps
    ∙ find-later c.args.name.now (string_bytes c.in-Some.file.now.name, c.in-Some.file.now.bytes.items) _
    (c.if-eq.ensures ∙ ap (bytes_eq c.args.name.now) c.as_str.ensures.value)
