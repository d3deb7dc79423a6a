use Rattle.std.proofs.Common.{◌≡◌, ◌+◌, ◌++◌, vec_len}
use Rattle.loop_runs.specs.Plants.{responses_of}
use Rattle.example_plants.specs.Known.{known_response}
use Rattle.example_plants.specs.ListedPlants.{listed_responses}
use Rattle.example_plants.proofs.listed.plants_of_list.Given as goal

abbrev pub invariant-loop-plants : goal.invariant-loop-plants
invariant-loop-plants l = record {
  responses : responses_of known_response l.plants.items ++ listed_responses l.rest.items
      ≡ listed_responses l.fn.listed.items;
  counted : vec_len l.plants + vec_len l.rest ≡ vec_len l.fn.listed;
}

abbrev pub decreases-loop-plants : goal.decreases-loop-plants
decreases-loop-plants l = vec_len l.rest
