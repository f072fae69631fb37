-- The network as a node knows it, after network_info.rs.
use Rattle.std.specs.Prelude.{ℕ, ◌*◌, ◌-◌, ◌≤◌, ◌<◌, Bool, ltb}
use Rattle.steps.specs.Numbers.{node_limit}
use Rattle.network.specs.declared.network_info.NetworkInfo.{NetworkInfo}

-- the shape that create has tested: 1 to 16 nodes, 3 × f below N, an own index of at most N
pub record Network (net : NetworkInfo) : Type 0 where
  pub some : 1 ≤ net.num_nodes
  pub sixteen : net.num_nodes ≤ node_limit
  pub faulty : 3 * net.num_faulty < net.num_nodes
  pub own : net.our_id ≤ net.num_nodes

abbrev pub is_validator : NetworkInfo → Bool
is_validator net = ltb net.our_id net.num_nodes

abbrev pub is_node_validator : NetworkInfo → ℕ → Bool
is_node_validator net id = ltb id net.num_nodes

abbrev pub num_correct : NetworkInfo → ℕ
num_correct net = net.num_nodes - net.num_faulty
