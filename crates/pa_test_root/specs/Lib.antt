pub mod RootScripts
