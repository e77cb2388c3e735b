use Rattle.std.proofs.Common.{◌≡◌, drop}
use Rattle.serde_json.specs.Data.{no_members}
use Rattle.serde_json.specs.View.{members_view}
use Rattle.tw_text.specs.Summaries.{with_services}
use Rattle.tw_text.proofs.summary.steps_by_name.Given as goal

-- what is named so far, and the services that are left
abbrev pub invariant-loop-service : goal.invariant-loop-service
invariant-loop-service l = with_services (members_view l.named.entries) (drop l.service-index l.services)
    ≡ with_services no_members l.services
