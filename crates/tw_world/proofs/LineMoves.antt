-- What a line that may add a step makes of a world, by what it makes of the service.
use Rattle.std.proofs.Common.{◌≡◌, ◌-◌, length, refl, sym, inl, inr, false}
use Rattle.std.specs.Prelude.{replicate, ◌++◌}
use Rattle.tw_base.specs.history.History.{History}
use Rattle.tw_world.specs.Hosts.{Given, GoesOnByReply, TakesGiven, own_answer}
use Rattle.tw_world.specs.Runs.{Moves}
use Rattle.tw_world.specs.Worlds.{Member, World, after_line, moved, with_member}
use Rattle.tw_world.specs.declared.told.Told.{Told}

-- the world goes on with the service in another state: with this history, and no crash waits
pub record IsMovedTo (w : World) (next : History) (after : World) : Type 0 where
  pub member : Member
  pub history : member.history ≡ next
  pub waits : member.waits ≡ false
  pub is : after ≡ after_line (with_member w member)

pub goes-moves : (given : Given) (w : World) (m : Member) (next : History) (told : Told) → GoesOnByReply given m.waits
    m.history next told
    → (after : World) × Moves (TakesGiven given) (own_answer given) w m told after × IsMovedTo w next after
goes-moves given w m next told (inl replied) = (
  after_line (moved w m next),
  inl (record { reply = replied.0; history = next; replies = replied.1; tells = replied.2; becomes = refl }),
  record {
    member = record {
      history = next;
      births = m.births ++ replicate (length next.steps - length m.history.steps) w.place;
      waits = false;
    };
    history = refl;
    waits = refl;
    is = refl;
  },
)
goes-moves given w m next told (inr undone) = (
  after_line (with_member w (record m { waits = false })),
  inr (undone.0, undone.2, refl),
  record { member = record m { waits = false }; history = sym undone.1; waits = refl; is = refl },
)
