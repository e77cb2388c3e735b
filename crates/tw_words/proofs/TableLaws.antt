-- Each form of the table is exact, so the first bad word is told.
use Rattle.std.proofs.Common.{◌≡◌, ℕ, ◌+◌, ◌-◌, ◌≤◌, List, length, refl, arith, Result, Ok, Err, IsOk, IsSome}
use Rattle.std.specs.Result.{result_ok}
use Rattle.tw_words.specs.Forms.{choose_form}
use Rattle.tw_words.specs.CommandLine.{IsFirstBadWord, commands, init, append, thread, receive, prove, prove_event}
use Rattle.tw_words.specs.CommandLine.{prove_thread, prove_absent, prove_link, map, map_low, map_high, export, show}
use Rattle.tw_words.specs.CommandLine.{join, verify, verify_file, verify_one, strict, check_map, audit, atlas, accuse}
use Rattle.tw_words.specs.CommandLine.{accuse_two, accuse_linked, check_fork, adopt, watch, offer, heads, replay}
use Rattle.tw_words.specs.CommandLine.{generate}
use Rattle.tw_words.proofs.FrontLaws.{EachExact, IsExact, Stops, exact-any, exact-choose, exact-digest, exact-either}
use Rattle.tw_words.proofs.FrontLaws.{exact-end, exact-maybe, exact-name, exact-number, exact-path, exact-paths}

all_exact : EachExact commands
unfolding init append thread receive prove prove_event prove_thread prove_absent prove_link map map_low map_high export show join verify verify_file verify_one strict check_map audit atlas accuse accuse_two accuse_linked check_fork adopt watch offer heads replay generate
all_exact =
    search (
      exact-any,
      exact-choose,
      exact-digest,
      exact-either,
      exact-end,
      exact-maybe,
      exact-name,
      exact-number,
      exact-path,
      exact-paths,
    ) depth 20

exact_table : IsExact (choose_form commands)
exact_table = search (exact-choose, all_exact)

is_ok : {T E : Type 0} (r : Result T E) → IsSome (result_ok r) → IsOk r
is_ok (Ok x) some = refl
is_ok (Err e) some = absurd (cc)

is_some : {T E : Type 0} (r : Result T E) → IsOk r → IsSome (result_ok r)
is_some (Ok x) ok = refl
is_some (Err e) ok = absurd (cc)

pub first_bad : (words : List (List ℕ)) (left : ℕ) → choose_form commands words ≡ Err left → (left ≤ length words)
    × IsFirstBadWord words ((length words - left) + 1)
first_bad words left stopped =
    let s : Stops (choose_form commands) words left = exact_table.stops words left stopped in
    let front : s.front ≡ length words - left = omega (arith, s.size) in (
      omega (arith, s.size),
      record {
        front = s.front;
        next = omega (arith, front);
        within = omega (arith, s.size);
        good = (s.rest, is_some _ s.good);
        longest = λ n within front. s.longest n front.0 within (is_ok _ front.1);
      },
    )
